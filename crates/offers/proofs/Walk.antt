-- Faces are offered one after the other, along the corners at a point. Assumes nothing.
use Prim.Native.Nat.{ℕ, suc, ◌+◌, ◌-◌, ◌*◌, ◌/◌, ◌≤◌, ◌<◌}
use mathlib.Core.Path.{◌≡◌, refl, sym, ap, ◌∙◌, subst}
use mathlib.Core.Logic.{◌≢◌, inl, ⊎_elim}
use mathlib.Core.Bool.{Bool, true, false, ◌&&◌}
use mathlib.Core.List.{List}
use native.Mathlib.Omega.{arith}
use lib.Dec.{eqb, ltb}
use lib.ListN.{get_or}
use borrow.Author.Tests.{eqb-true, eqb-false, eq-eqb, ne_eqb, ltb-true, ltb-false}
use Rattle.lists.specs.Lists.{bit, up_from}
use Rattle.lists.proofs.Bools.{either, and_both}
use Rattle.lists.proofs.Counts.{count_ext}
use Rattle.patch.specs.Lay.{edge, Face, face}
use Rattle.patch.specs.Shape.{has, touches}
use Rattle.minima.specs.Inner.Minima.{Nodes, leaf, Outside, Renewed}
use Rattle.corners.specs.Corners.{last_at, face_in, CornersLinked, Bound}
use Rattle.corners.proofs.Chain.{last_at_lem, last_none, bound_same}
use Rattle.regions.specs.Inner.Ordering.{corners_at, heads_at, tree_at}
use Rattle.offers.specs.Inner.Offers.{offered, Offered, OfferedAt, Faces, Meets}
use Rattle.offers.proofs.Faces.{has_both, tally, tally_here, tally_last, tally_none, tally_faces, corner_touches, touches_corner}

-- ---- one face
module _ (faces g v : ℕ) where
  pub offered_left : v ≡ faces + g → offered true faces g v ≡ g
  unfolding offered
  offered_left e = rw (eq-eqb v (faces + g) e, offered)

  pub offered_kept : v ≢ faces + g → offered true faces g v ≡ v
  unfolding offered
  offered_kept e = rw (ne_eqb v (faces + g) e, offered)

pub offered_no : (faces g v : ℕ) → offered false faces g v ≡ v
unfolding offered
offered_no faces g v = refl

-- offered twice is offered once
offered_again : (test : Bool) (faces g v : ℕ) → 1 ≤ faces → offered true faces g (offered test faces g v) ≡ offered true faces g v
offered_again true faces g v l = ⊎_elim
    (λ (t : eqb v (faces + g) ≡ true).
    let e = offered_left faces g v (eqb-true v (faces + g) t) in
    ap (offered true faces g) e ∙ offered_kept faces g g (λ (q : g ≡ faces + g). omega arith) ∙ sym e)
    (λ (t : eqb v (faces + g) ≡ false). ap (offered true faces g) (offered_kept faces g v (eqb-false v (faces + g) t)))
    (either (eqb v (faces + g)))
offered_again false faces g v l = ap (offered true faces g) (offered_no faces g v)

module _ (n faces g : ℕ) (w : List ℕ) where
  pub offer_none : (test : Bool) → offered test faces g (leaf (tree_at n) faces w g) ≡ leaf (tree_at n) faces w g → Offered n faces g test w w
  offer_none test h = record { nodes = λ k. k; offer = sym h; others = λ k l ne. refl; outside = λ k s. refl }

  pub offer_renewed : (u : List ℕ) → leaf (tree_at n) faces w g ≡ faces + g → Renewed (tree_at n) faces g g w u → Offered n faces g true w u
  offer_renewed u e r = record {
    nodes = r.nodes;
    offer = r.renewed ∙ sym (offered_left faces g (leaf (tree_at n) faces w g) e);
    others = r.others;
    outside = r.outside;
  }

  pub offer_yes : (u : List ℕ) (test : Bool) → true ≡ test → Offered n faces g true w u → Offered n faces g test w u
  offer_yes u test e h = subst (λ (b : Bool). Offered n faces g b w u) e h

-- ---- along the corners
module _ (n faces x y : ℕ) (start : List ℕ) where
  -- whatever the faces: the corners from `next` on were passed, of which `met` are in faces with y
  pub record Going (corner : ℕ → ℕ) (at : ℕ → Face) (w : List ℕ) (met next : ℕ) : Type 0 where
    pub from : ℕ
    pub within : from ≤ 3 * faces
    pub next_is : next ≡ last_at corner x from
    pub tallied : met + tally corner x (λ g. touches y (at g)) next ≡ tally corner x (λ g. touches y (at g)) (3 * faces)
    pub seen : (t : ℕ) → next ≤ t → t < 3 * faces → corner t ≡ x → touches y (at (t / 3)) ≡ true → leaf (tree_at n) faces w (t / 3)
        ≡ offered true faces (t / 3) (leaf (tree_at n) faces start (t / 3))
    pub again : (g : ℕ) → g < faces → offered true faces g (leaf (tree_at n) faces w g) ≡ offered true faces g (leaf (tree_at n) faces start g)
    pub others : (g : ℕ) → g < faces → (touches x (at g) && touches y (at g)) ≡ false → leaf (tree_at n) faces w g ≡ leaf (tree_at n) faces start g

  pub record Walked (w : List ℕ) (met next : ℕ) : Type 0 where
    pub nodes : Nodes (tree_at n) faces start → Nodes (tree_at n) faces w
    pub outside : Outside (tree_at n) faces start w
    pub going : (corner : ℕ → ℕ) (at : ℕ → Face) → CornersLinked n (3 * faces) corner start → Faces faces corner at → Going corner at w met next

  pub walk_start : x < n → Walked start 0 (get_or start (heads_at n + x) 0)
  walk_start l = record {
    nodes = λ h. h;
    outside = λ k s. refl;
    going = λ corner at linked held. record {
      from = 3 * faces;
      within = omega arith;
      next_is = linked.heads x l;
      tallied =
          let e = ap (tally corner x (λ g. touches y (at g))) (linked.heads x l) in
          let f = tally_last corner x (λ g. touches y (at g)) (3 * faces) in
          omega arith;
      seen = λ t a b e q. absurd (last_none corner x (3 * faces) t (subst (λ (k : ℕ). k ≤ t) (linked.heads x l) a) b e);
      again = λ g b. refl;
      others = λ g b e. refl;
    };
  }

  -- the words in front of the tree are as they were
  front : (w : List ℕ) → Outside (tree_at n) faces start w → (k : ℕ) → k < 7 * n → get_or w k 0 ≡ get_or start k 0
  front w o k l = o k (inl (omega arith))

  pub walk_bound : (few : faces ≤ n) (w : List ℕ) → Outside (tree_at n) faces start w → Bound n (3 * faces) start → Bound n (3 * faces) w
  walk_bound few w o h = bound_same n (3 * faces) (omega arith) start w (front w o) h

  module _ (few : faces ≤ n) (w u : List ℕ) (met next r : ℕ) (more : 0 < next) (low : next ≤ 3 * faces) (walked : Walked w met next)
      (has-it : Bool) (counted : r ≡ bit has-it) (at-face : OfferedAt n faces ((next - 1) / 3) y has-it w u) where
    abbrev side : ℕ
    side = next - 1

    abbrev here : ℕ
    here = (next - 1) / 3

    abbrev step : Offered n faces here (touches y (face_in w here)) w u
    step = at-face.1

    below : here < faces
    below = omega arith

    outside_now : Outside (tree_at n) faces start u
    outside_now k s = step.outside k s ∙ walked.outside k s

    module _ (corner : ℕ → ℕ) (at : ℕ → Face) (linked : CornersLinked n (3 * faces) corner start) (held : Faces faces corner at) where
      now_going : Going corner at w met next
      now_going = walked.going corner at linked held

      -- the face that was read is the face
      face_is : face_in w here ≡ at here
      face_is =
          let c0 : get_or w (3 * here) 0
          ≡ corner (3 * here) = front w walked.outside (3 * here) (omega arith) ∙ linked.corners (3 * here) (omega (arith, below)) in
          let c1 : get_or w (3 * here + 1) 0
          ≡ corner (3 * here + 1) = front w walked.outside (3 * here + 1) (omega (arith, below)) ∙ linked.corners (3 * here + 1)
          (omega (arith, below)) in
          let c2 : get_or w (3 * here + 2) 0
          ≡ corner (3 * here + 2) = front w walked.outside (3 * here + 2) (omega (arith, below)) ∙ linked.corners (3 * here + 2)
          (omega (arith, below)) in
          (λ i. face (c0 i) (c1 i) (c2 i)) ∙ sym (held.are here below)

      test_is : touches y (face_in w here) ≡ touches y (at here)
      test_is = ap (touches y) face_is

      at_x : corner side ≡ x
      at_x = last_at_lem corner x now_going.from side (sym now_going.next_is ∙ (omega arith))

      next_now : get_or u (corners_at n + side) 0 ≡ last_at corner x side
      next_now =
          outside_now (corners_at n + side) (inl (omega arith))
          ∙ linked.links side (omega arith)
          ∙ ap (λ (p : ℕ). last_at corner p side) at_x

      has_x : touches x (at here) ≡ true
      has_x = corner_touches faces corner at held x side (omega arith) at_x

      leaf_now : leaf (tree_at n) faces u here ≡ offered (touches y (at here)) faces here (leaf (tree_at n) faces w here)
      leaf_now = step.offer ∙ ap (λ (b : Bool). offered b faces here (leaf (tree_at n) faces w here)) test_is

      abbrev q : ℕ → Bool
      q g = touches y (at g)

      tallied_now : met + r + tally corner x q (get_or u (corners_at n + side) 0) ≡ tally corner x q (3 * faces)
      tallied_now =
          let before = now_going.tallied in
          let one : tally corner x q next ≡ bit (q here) + tally corner x q side =
          (let e : next ≡ suc side = omega arith in ap (tally corner x q) e ∙ tally_here corner x q side at_x) in
          let now : tally corner x q (get_or u (corners_at n + side) 0) ≡ tally corner x q side = ap (tally corner x q) next_now ∙ tally_last corner x q side in
          let found : r ≡ bit (q here) = counted ∙ ap bit (at-face.0 ∙ test_is) in
          omega arith

      seen_now : (t : ℕ) → get_or u (corners_at n + side) 0 ≤ t → t < 3 * faces → corner t ≡ x → q (t / 3) ≡ true → leaf (tree_at n) faces u (t / 3)
          ≡ offered true faces (t / 3) (leaf (tree_at n) faces start (t / 3))
      seen_now t a b e h = ⊎_elim
          (λ (s : eqb (t / 3) here ≡ true).
          let same = eqb-true (t / 3) here s in
          rw same (leaf_now ∙ ap (λ (z : Bool). offered z faces here (leaf (tree_at n) faces w here)) (ap q (sym same) ∙ h) ∙ now_going.again here below))
          (λ (s : eqb (t / 3) here ≡ false).
          let other = eqb-false (t / 3) here s in
          let not-side : t ≢ side = λ (z : t ≡ side). other (ap (λ (k : ℕ). k / 3) z) in
          ⊎_elim
          (λ (lt : ltb t side ≡ true). absurd (last_none corner x side t (subst (λ (k : ℕ). k ≤ t) next_now a) (ltb-true t side lt) e))
          (λ (ge : ltb t side ≡ false).
          let g = ltb-false t side ge in
          step.others (t / 3) (omega arith) other ∙ now_going.seen t (omega arith) b e h)
          (either (ltb t side)))
          (either (eqb (t / 3) here))

      again_now : (g : ℕ) → g < faces → offered true faces g (leaf (tree_at n) faces u g) ≡ offered true faces g (leaf (tree_at n) faces start g)
      again_now g b = ⊎_elim
          (λ (s : eqb g here ≡ true).
          rw (eqb-true g here s)
          (ap (offered true faces here) leaf_now ∙ offered_again (q here) faces here (leaf (tree_at n) faces w here)
          (omega arith) ∙ now_going.again here below))
          (λ (s : eqb g here ≡ false). ap (offered true faces g) (step.others g b (eqb-false g here s)) ∙ now_going.again g b)
          (either (eqb g here))

      others_now : (g : ℕ) → g < faces → (touches x (at g) && touches y (at g)) ≡ false → leaf (tree_at n) faces u g ≡ leaf (tree_at n) faces start g
      others_now g b e = ⊎_elim
          (λ (s : eqb g here ≡ true).
          let same = eqb-true g here s in
          let none : (touches x (at here) && q here) ≡ false = rw same at e in
          let no : q here ≡ false = rw has_x at none in
          rw same (leaf_now ∙ ap (λ (z : Bool). offered z faces here (leaf (tree_at n) faces w here)) no ∙ offered_no faces here
          (leaf (tree_at n) faces w here) ∙ now_going.others here below none))
          (λ (s : eqb g here ≡ false). step.others g b (eqb-false g here s) ∙ now_going.others g b e)
          (either (eqb g here))

      going_on : Going corner at u (met + r) (get_or u (corners_at n + side) 0)
      going_on = record {
        from = side;
        within = omega arith;
        next_is = next_now;
        tallied = tallied_now;
        seen = seen_now;
        again = again_now;
        others = others_now;
      }

    pub walk_step : Walked u (met + r) (get_or u (corners_at n + side) 0)
    walk_step = record { nodes = λ h. step.nodes (walked.nodes h); outside = outside_now; going = going_on }

  pub walk_end : (w : List ℕ) (met next : ℕ) → next ≡ 0 → Walked w met next → Meets n faces x y met start w
  walk_end w met next z walked = record {
    nodes = walked.nodes;
    outside = walked.outside;
    meets = λ corner at linked held apart.
        let g = walked.going corner at linked held in
        record {
          met =
              let t = g.tallied in
              let none : tally corner x (λ h. touches y (at h)) next
              ≡ 0 = ap (tally corner x (λ h. touches y (at h))) z ∙ tally_none corner x (λ h. touches y (at h)) in
              let e : met ≡ tally corner x (λ h. touches y (at h)) (3 * faces) = omega arith in
              e ∙ tally_faces faces corner at held x (λ h. touches y (at h)) faces (omega arith)
              ∙ count_ext (λ h. touches x (at h) && touches y (at h)) (λ h. has (edge x y) (at h)) (λ h. sym (has_both x y (at h) apart)) (up_from 0 faces);
          leaves = λ h l. ⊎_elim
              (λ (t : (touches x (at h) && touches y (at h)) ≡ true).
              let b = and_both {p = touches x (at h)} {q = touches y (at h)} t in
              let c = touches_corner faces corner at held x h l b.0 in
              let s = g.seen c.0 (omega arith) c.1 c.3 (ap (λ (k : ℕ). touches y (at k)) c.2 ∙ b.1) in
              (rw c.2 at s) ∙ ap (λ (v : Bool). offered v faces h (leaf (tree_at n) faces start h)) (sym (has_both x y (at h) apart ∙ t)))
              (λ (t : (touches x (at h) && touches y (at h)) ≡ false).
              g.others h l t ∙ sym
              (ap (λ (v : Bool). offered v faces h (leaf (tree_at n) faces start h)) (has_both x y (at h) apart ∙ t) ∙ offered_no faces h
              (leaf (tree_at n) faces start h)))
              (either (touches x (at h) && touches y (at h)));
        };
  }
