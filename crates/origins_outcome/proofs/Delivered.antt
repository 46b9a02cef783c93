-- Whatever was found comes back as the definition says: nothing, too much, a plain patch that was to be turned, or the
-- faces with their origins. Assumes nothing.
use Prim.Native.Nat.{ℕ, zero, suc, ◌*◌, ◌/◌, ◌≤◌}
use mathlib.Core.Path.{◌≡◌, refl, sym, ap, ◌∙◌}
use mathlib.Core.Bool.{Bool, true, false, cond, ◌||◌}
use mathlib.Core.List.{List, [], ◌∷◌, ◌++◌}
use native.Mathlib.Omega.{arith}
use lib.Dec.{ltb}
use lib.ListN.{length, get_or, take, drop, replicate}
use lib.Seq.{sets}
use lib.Ieee.{Float}
use borrow.Author.Tests.{eq-eqb, ne_eqb, ltb-false}
use Rattle.settings.specs.declared.BallPivotingConfig.{BallPivotingConfig}
use Rattle.lists.specs.Lists.{bit}
use Rattle.patch.specs.Lay.{Face}
use Rattle.patch.specs.View.{flat, written}
use Rattle.patch.proofs.View.{length_written, written_none}
use Rattle.origins.specs.Origins.{pairs}
use Rattle.origins.specs.Pass.{origins_from}
use Rattle.origins.specs.Turned.{turned_from, turned}
use Rattle.origins.proofs.Shapes.{turned_length}
use Rattle.origins.proofs.Pairs.{pairs_length, turned_by}
use Rattle.tracing.specs.Inner.Read.{faces_from}
use Rattle.tracing.specs.Plain.{plain_origin, plain_origins}
use Rattle.words.proofs.Chunks.{chunks_length}
use Rattle.looks.specs.Inner.Looks.{parent_in}
use Rattle.ball_pivoting.specs.Reconstruct.{Found, point_count, radii_of, laid_of, laid, found, reason, refused, accepted}
use Rattle.ball_pivoting.specs.Inner.Parts.{marks_of, accepted_by}
use Rattle.ball_pivoting.specs.declared.Finding.{Finding}
use Rattle.ball_pivoting.specs.declared.Patch.{Patch}
use Rattle.ball_pivoting.proofs.Reasons.{not_zero, not_nine, reason_is}
use Rattle.ball_pivoting.proofs.Found.{found_laid, found_plain}
use Rattle.ball_pivoting.proofs.Delivered.{listed_slots}
use Rattle.origins_outcome.specs.Call.{trace_in, origins_of, faces_as, over, turns_plain, delivered_with, slice_after}
use Rattle.origins_outcome.specs.Inner.Parts.{FindsFor}
use Rattle.origins_outcome.proofs.Slices.{sets_front, written_fits, front_again, faces_from_written, parent_in_lem}
use Rattle.origins_outcome.proofs.Traces.{traced_so, pass_so, parents_as_places, origins_laid, origins_plain}

pub not_both : true ≡ false → ⊥
not_both e = let z : bit true ≡ bit false = ap bit e in omega arith

neither : (a b : Bool) → (a || b) ≡ false → (a ≡ false) × (b ≡ false)
neither true b e = absurd (not_both e)
neither false b e = (refl, e)

-- all of them fit both slices
pub fits : (F room places : ℕ) → over F room places ≡ false → (3 * F ≤ room) × (2 * F ≤ places)
fits F room places e =
    let n = neither (ltb (room / 3) F) (ltb (places / 2) F) e in
    let a = ltb-false (room / 3) F n.0 in
    let b = ltb-false (places / 2) F n.1 in
    (omega arith, omega arith)

same_either : (b : Bool) (x y z : List ℕ) → x ≡ z → y ≡ z → cond b x y ≡ z
same_either true x y z e f = e
same_either false x y z e f = f

no_faces : (fs : List Face) (slice : List ℕ) → length fs ≡ 0 → written fs slice ≡ slice
no_faces [] slice e = written_none slice
no_faces (f ∷ fs) slice e = absurd (omega arith)

no_radii : (rs : List Float) → length rs ≡ 0 → rs ≡ []
no_radii [] e = refl
no_radii (r ∷ rs) e = absurd (omega arith)

some_radii : (rs : List Float) → (length rs ≡ 0 → ⊥) → rs ≡ [] → ⊥
some_radii rs some e = some (ap length e)

-- ---- a slice at the end, by the answer
module _ (p : Patch) (front slice : List ℕ) where
  pub after_accepted : p.answer ≡ 0 → slice_after p front slice ≡ front ++ drop (length front) slice
  unfolding slice_after
  after_accepted e = rw (eq-eqb p.answer 0 e)

  after_nine : p.answer ≡ 9 → slice_after p front slice ≡ replicate (length slice) 0
  unfolding slice_after
  after_nine e = rw e

  after_other : (p.answer ≡ 0 → ⊥) → (p.answer ≡ 9 → ⊥) → slice_after p front slice ≡ slice
  unfolding slice_after
  after_other z n = rw (ne_eqb p.answer 0 z, ne_eqb p.answer 9 n)

module _ (turn : Bool) (c : BallPivotingConfig) (pts : List Float) (lent : List ℕ) (r : Finding) (slice origins : List ℕ)
    (h : FindsFor turn c pts lent r slice) where
  abbrev fs : List Face
  fs = (found c pts).faces

  abbrev rs : List Float
  rs = radii_of c pts

  -- the three equations of `Delivers`
  abbrev Comes : Patch → List ℕ → List ℕ → Type 0
  Comes p faces' origins' =
      (p ≡ delivered_with (reason c pts) (found c pts) rs turn (length lent) (length origins))
      × (faces' ≡ slice_after p (flat (faces_as turn c pts)) lent) × (origins' ≡ slice_after p (origins_of c pts) origins)

  number : r.faces ≡ length fs
  number = h.finds.faces

  long : length slice ≡ length lent
  long = ap length h.held ∙ either_long (turns_plain turn rs)
    where
      either_long : (b : Bool) → length (cond b lent (written fs lent)) ≡ length lent
      either_long true = refl
      either_long false = length_written fs lent

  pub comes_none : (p : Patch) → p ≡ refused r.reason 0 → r.faces ≡ 0 → Comes p slice origins
  unfolding delivered_with refused
  comes_none p e nothing =
      let none : length fs ≡ 0 = sym number ∙ nothing in
      let named = reason_is c pts in
      let is : p ≡ refused (reason c pts) 0 = e ∙ ap (λ (x : ℕ). refused x 0) (h.finds.reason nothing) in
      let a : p.answer ≡ reason c pts = ap (λ (q : Patch). q.answer) is in
      let z : p.answer ≡ 0 → ⊥ = λ q. not_zero (reason c pts) named (sym a ∙ q) in
      let n : p.answer ≡ 9 → ⊥ = λ q. not_nine (reason c pts) named (sym a ∙ q) in (
        rw (eq-eqb (length fs) 0 none) is,
        h.held ∙ same_either (turns_plain turn rs) lent (written fs lent) lent refl (no_faces fs lent none) ∙ sym
            (after_other p (flat (faces_as turn c pts)) lent z n),
        sym (after_other p (origins_of c pts) origins z n),
      )

  module _ (some : r.faces ≡ 0 → ⊥) where
    not_none : length fs ≡ 0 → ⊥
    not_none q = some (number ∙ q)

    pub comes_over : (p : Patch) (faces' origins' : List ℕ) → over r.faces (length slice) (length origins) ≡ true → p ≡ refused 9 0
        → faces' ≡ replicate (length slice) 0 → origins' ≡ replicate (length origins) 0 → Comes p faces' origins'
    unfolding delivered_with refused
    comes_over p faces' origins' o e f g =
        let more : over (length fs) (length lent) (length origins) ≡ true =
        ap (λ (k : ℕ). over k (length lent) (length origins)) (sym number) ∙ ap (λ (k : ℕ). over r.faces k (length origins)) (sym long) ∙ o in
        let nine : p.answer ≡ 9 = ap (λ (q : Patch). q.answer) e in (
          rw (ne_eqb (length fs) 0 not_none, more) e,
          f ∙ ap (λ (k : ℕ). replicate k 0) long ∙ sym (after_nine p (flat (faces_as turn c pts)) lent nine),
          g ∙ sym (after_nine p (origins_of c pts) origins nine),
        )

    module _ (o : over r.faces (length slice) (length origins) ≡ false) where
      not_over : over (length fs) (length lent) (length origins) ≡ false
      not_over = ap (λ (k : ℕ). over k (length lent) (length origins)) (sym number) ∙ ap (λ (k : ℕ). over r.faces k (length origins)) (sym long) ∙ o

      faces_fit : 3 * length fs ≤ length lent
      faces_fit = (fits (length fs) (length lent) (length origins) not_over).0

      origins_fit : 2 * length fs ≤ length origins
      origins_fit = (fits (length fs) (length lent) (length origins) not_over).1

      pub comes_eighteen : (p : Patch) → turn ≡ true → r.radii.count ≡ 0 → p ≡ refused 18 0 → Comes p slice origins
      unfolding delivered_with refused
      comes_eighteen p on none e =
          let bare : length rs ≡ 0 = sym h.finds.radii.counted ∙ none in
          let plain : turns_plain turn rs ≡ true = rw on (eq-eqb (length rs) 0 bare) in
          let a : p.answer ≡ 18 = ap (λ (q : Patch). q.answer) e in
          let z : p.answer ≡ 0 → ⊥ = λ q. omega arith in
          let n : p.answer ≡ 9 → ⊥ = λ q. omega arith in (
            rw (ne_eqb (length fs) 0 not_none, not_over, plain) e,
            (rw plain at h.held) ∙ sym (after_other p (flat (faces_as turn c pts)) lent z n),
            sym (after_other p (origins_of c pts) origins z n),
          )

      -- the patch comes back
      module _ (p : Patch) (is : p ≡ accepted_by r) (flat_one : turns_plain turn rs ≡ false) where
        zero_answer : p.answer ≡ 0
        unfolding accepted_by
        zero_answer = ap (λ (q : Patch). q.answer) is

        accepted_is : p ≡ accepted (found c pts) rs
        unfolding accepted_by accepted
        accepted_is = let k = h.finds in is ∙ cc (k.faces, k.seeds, k.looks, k.pivots, k.radii.counted, listed_slots rs r.radii k.radii)

        comes_as : p ≡ delivered_with (reason c pts) (found c pts) rs turn (length lent) (length origins)
        unfolding delivered_with
        comes_as = rw (ne_eqb (length fs) 0 not_none, not_over, flat_one) accepted_is

        stands : slice ≡ written fs lent
        stands = rw flat_one at h.held

      pub comes_plain : (p : Patch) (origins' : List ℕ) → p ≡ accepted_by r → turn ≡ false → r.radii.count ≡ 0 → origins'
          ≡ sets origins 0 (plain_origins r.faces) → Comes p slice origins'
      unfolding faces_as plain_origins
      comes_plain p origins' is off none e =
          let flat_one : turns_plain turn rs ≡ false = rw off in
          let bare : rs ≡ [] = no_radii rs (sym h.finds.radii.counted ∙ none) in
          let told : origins_of c pts
          ≡ plain_origins (length fs) = origins_plain c pts bare ∙ ap (λ (f : Found). plain_origins (length f.faces)) (sym (found_plain c pts bare)) in
          let z = zero_answer p is flat_one in
          let size : length (plain_origins (length fs)) ≡ 2 * length fs = chunks_length plain_origin 2 (λ i. refl) 0 (length fs) in
          let room : length (plain_origins (length fs)) ≤ length origins = omega (arith, size, origins_fit) in (
            comes_as p is flat_one,
            stands p is flat_one ∙ written_fits fs lent faces_fit ∙ sym (rw off (after_accepted p (flat fs) lent z)),
            e ∙ ap (λ (k : ℕ). sets origins 0 (plain_origins k)) number ∙ sets_front (plain_origins (length fs)) origins room
                ∙ ap (λ (l : List ℕ). l ++ drop (length l) origins) (sym told) ∙ sym (after_accepted p (origins_of c pts) origins z),
          )

      -- with radii
      module _ (p : Patch) (is : p ≡ accepted_by r) (radii : r.radii.count ≡ 0 → ⊥) where
        there : length rs ≡ 0 → ⊥
        there q = radii (h.finds.radii.counted ∙ q)

        flat_one : turns_plain turn rs ≡ false
        flat_one = go turn
          where
            go : (b : Bool) → turns_plain b rs ≡ false
            go true = ne_eqb (length rs) 0 there
            go false = refl

        from_laid : fs ≡ (laid_of c pts).faces
        unfolding laid
        from_laid = ap (λ (f : Found). f.faces) (found_laid c pts rs refl (some_radii rs there))

        read : faces_from slice 0 r.faces ≡ fs
        read = ap (λ (l : List ℕ). faces_from l 0 r.faces) (stands p is flat_one) ∙ faces_from_written fs lent r.faces number faces_fit

        abbrev told_list : List ℕ
        told_list = pairs (trace_in c pts).parents (trace_in c pts).places

        many : length (trace_in c pts).parents ≡ length fs
        many = (traced_so c pts).long ∙ ap length (sym from_laid)

        -- what the pass wrote
        module _ (n : ℕ) (words origins' : List ℕ) (over_points : n ≡ point_count pts) (within : n ≤ length words) (zeros : words ≡ replicate (length words) 0)
            (e : origins' ≡ sets origins 0 (origins_from (take r.radii.count r.marks) 0 (take n words) (faces_from slice 0 r.faces))) where
          take_zeros : (k m : ℕ) → k ≤ m → take {A = ℕ} k (replicate m 0) ≡ replicate k 0
          take_zeros zero m l = refl
          take_zeros (suc k) zero l = absurd (omega arith)
          take_zeros (suc k) (suc m) l = ap (λ (l : List ℕ). 0 ∷ l) (take_zeros k m (omega arith))

          noted : origins' ≡ told_list ++ drop (length told_list) origins
          noted =
              let blank : take n words
              ≡ replicate (point_count pts) 0 = ap (take n) zeros ∙ take_zeros n (length words) within ∙ ap (λ (k : ℕ). replicate k 0) over_points in
              let size : length told_list ≤ length origins = omega
              (arith, pairs_length (trace_in c pts).parents (trace_in c pts).places (parents_as_places c pts), many, origins_fit) in
              e
              ∙ ap (λ (ms : List ℕ). sets origins 0 (origins_from ms 0 (take n words) (faces_from slice 0 r.faces))) h.finds.marks
              ∙ ap (λ (w : List ℕ). sets origins 0 (origins_from (marks_of c pts) 0 w (faces_from slice 0 r.faces))) blank
              ∙ ap (λ (l : List Face). sets origins 0 (origins_from (marks_of c pts) 0 (replicate (point_count pts) 0) l)) (read ∙ from_laid)
              ∙ ap (sets origins 0) (pass_so c pts)
              ∙ sets_front told_list origins size

          abbrev parent : ℕ → ℕ
          parent i = get_or (trace_in c pts).parents i 0

          turned_is : turned_from (parent_in origins') 0 (faces_from slice 0 r.faces) ≡ turned (trace_in c pts).parents fs
          turned_is =
              ap (turned_from (parent_in origins') 0) read
              ∙ turned_by (parent_in origins') (trace_in c pts).parents fs (λ i b. ap (λ (l : List ℕ). parent_in l i) noted
              ∙ parent_in_lem (trace_in c pts).parents (trace_in c pts).places (drop (length told_list) origins) i (parents_as_places c pts) (omega (arith, many)))

          by_turn : (b : Bool) → cond b (sets slice 0 (flat (turned_from (parent_in origins') 0 (faces_from slice 0 r.faces)))) slice ≡ flat (faces_as b c pts)
              ++ drop (length (flat (faces_as b c pts))) lent
          unfolding faces_as turned
          by_turn true =
              ap (λ (l : List Face). sets slice 0 (flat l)) turned_is
              ∙ ap (λ (l : List ℕ). sets l 0 (flat (turned (trace_in c pts).parents fs))) (stands p is flat_one)
              ∙ front_again (turned (trace_in c pts).parents fs) fs lent (turned_length parent 0 fs) faces_fit
          by_turn false = stands p is flat_one ∙ written_fits fs lent faces_fit

          pub comes_laid : (faces' : List ℕ) → faces' ≡ cond turn (sets slice 0 (flat (turned_from (parent_in origins') 0 (faces_from slice 0 r.faces)))) slice
              → Comes p faces' origins'
          comes_laid faces' g =
              let z = zero_answer p is flat_one in (
                comes_as p is flat_one,
                g ∙ by_turn turn ∙ sym (after_accepted p (flat (faces_as turn c pts)) lent z),
                noted ∙ ap (λ (l : List ℕ). l ++ drop (length l) origins) (sym (origins_laid c pts (some_radii rs there))) ∙ sym
                    (after_accepted p (origins_of c pts) origins z),
              )
