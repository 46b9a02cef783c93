-- The sides of a face opened one after the other, and what the words hold once it is placed. Assumes nothing.
use Prim.Native.Nat.{ℕ, ◌+◌, ◌*◌, ◌≤◌, ◌<◌}
use mathlib.Core.Path.{◌≡◌, refl, sym, ap, ◌∙◌, subst, transport}
use mathlib.Core.Logic.{◌≢◌, ◌⊎◌, inl, inr, ⊎_elim}
use mathlib.Core.Bool.{Bool, true, false, not, ◌&&◌, ◌||◌}
use mathlib.Core.List.{List, [], ◌∷◌}
use native.Mathlib.Omega.{arith}
use lib.Dec.{eqb, leb}
use lib.ListN.{length, set, get_or, length-set}
use lib.Seq.{get_or-set_same, get_or-set_other}
use borrow.Author.Tests.{eqb-true, eqb-false, eq-eqb, ne_eqb, leb-true, leb-false}
use Rattle.lists.specs.Lists.{bit, any, up_from}
use Rattle.lists.proofs.Bools.{either, not-true, true_not_false, and_both}
use Rattle.lists.proofs.Counts.{false_any, count_ext}
use Rattle.patch.specs.Lay.{Edge, edge, same, Face, face}
use Rattle.patch.specs.Shape.{has, touches}
use Rattle.patch.proofs.Edges.{has_congr, key_same, has_which}
use Rattle.orders.specs.Order.{neighbours, reached, joined, fresh, fits}
use Rattle.orders.proofs.Points.{neighbours_sym, any_cons}
use Rattle.minima.specs.Inner.Minima.{Nodes, leaf, Outside, Renewed}
use Rattle.minima.proofs.Trees.{nodes_same}
use Rattle.corners.specs.Corners.{CornersLinked, Bound}
use Rattle.corners.proofs.Chain.{linked_same}
use Rattle.offers.specs.Inner.Offers.{offered, Faces, Meets}
use Rattle.offers.proofs.Walk.{offered_left, offered_kept, offered_no}
use Rattle.regions.specs.Inner.Ordering.{reached_words_at, tree_at, tree_end}
use mir.Val.{bool_byte}
use Rattle.lists.proofs.Bytes.{byte_bit}
use Rattle.placing.specs.Inner.Placing.{lies, is_placed, opens, fitting, Opens, AllSidesOpened, Arounds, value, PlacedKept, Placed, Places}
use Rattle.placing.proofs.Sides.{or_either, or_left, or_right, own_edge, own_ab, own_bc, own_ca, neighbours_which, laid_joined, old_ab, old_bc, old_ca}

-- ---- one side
flip_has : (x y : ℕ) (f : Face) → has (edge y x) f ≡ has (edge x y) f
flip_has x y f = has_congr (edge y x) (edge x y) (key_same (edge y x) (edge x y) (record { low = omega arith; high = omega arith })) f

module _ (n faces x y : ℕ) (w : List ℕ) where
  pub open_none : (new : Bool) → new ≡ false → Opens n faces x y new true w w
  open_none new e = record {
    nodes = λ h. h;
    outside = λ k s. refl;
    side = λ corner at linked held apart. record {
      leaves = λ g l. sym (ap (λ (b : Bool). offered (b && has (edge x y) (at g)) faces g (leaf (tree_at n) faces w g)) e ∙ offered_no faces g
          (leaf (tree_at n) faces w g));
      few = λ _ h. absurd (true_not_false h e);
      crowd = λ h. absurd (true_not_false refl h);
    };
  }

  pub open_met : (u : List ℕ) (m : ℕ) (new : Bool) → new ≡ true → Meets n faces x y m w u → Opens n faces x y new (leb m 2) w u
  open_met u m new e meets = record {
    nodes = meets.nodes;
    outside = meets.outside;
    side = λ corner at linked held apart.
        let h = meets.meets corner at linked held apart in
        record {
          leaves = λ g l. h.leaves g l ∙ sym (ap (λ (b : Bool). offered (b && has (edge x y) (at g)) faces g (leaf (tree_at n) faces w g)) e);
          few = λ t _. let a = leb-true m 2 t in let b = h.met in omega arith;
          crowd = λ t. let a = leb-false m 2 t in let b = h.met in omega arith;
        };
  }

  pub open_flip : (u : List ℕ) (new r : Bool) → Opens n faces y x new r w u → Opens n faces x y new r w u
  open_flip u new r o = record {
    nodes = o.nodes;
    outside = o.outside;
    side = λ corner at linked held apart.
        let h = o.side corner at linked held (λ (q : y ≡ x). apart (sym q)) in
        let many : lies faces at (edge y x)
        ≡ lies faces at (edge x y) = count_ext (λ g. has (edge y x) (at g)) (λ g. has (edge x y) (at g)) (λ g. flip_has x y (at g)) (up_from 0 faces) in
        record {
          leaves = λ g l. h.leaves g l ∙ ap (λ (b : Bool). offered (new && b) faces g (leaf (tree_at n) faces w g)) (flip_has x y (at g));
          few = λ t s. let a = h.few t s in omega arith;
          crowd = λ t. let a = h.crowd t in omega arith;
        };
  }

  pub opens_as : (u : List ℕ) (new r s : Bool) → r ≡ s → Opens n faces x y new r w u → Opens n faces x y new s w u
  opens_as u new r s e o = subst (λ (b : Bool). Opens n faces x y new b w u) e o

-- ---- three sides
-- the words in front of the tree
pub front_same : (n faces : ℕ) (v w : List ℕ) → Outside (tree_at n) faces v w → (k : ℕ) → k < 7 * n → get_or w k 0 ≡ get_or v k 0
front_same n faces v w o k l = o k (inl (omega arith))

module _ (n faces a b c : ℕ) (ab bc ca : Bool) (few : faces ≤ n) (w u : List ℕ) where
  module _ (v : List ℕ) (one : Opens n faces a b ab true w u) where
    keep : (corner : ℕ → ℕ) → CornersLinked n (3 * faces) corner w → CornersLinked n (3 * faces) corner u
    keep corner = linked_same n (3 * faces) (omega arith) w u (front_same n faces w u one.outside) corner

    pub around_third : (z : List ℕ) (r : Bool) → Opens n faces b c bc true u v → Opens n faces c a ca r v z → Arounds n faces a b c ab bc ca r w z
    around_third z r two o = record {
      nodes = λ h. o.nodes (two.nodes (one.nodes h));
      outside = λ k s. o.outside k s ∙ two.outside k s ∙ one.outside k s;
      sides = λ corner at linked held p q s.
          let x = one.side corner at linked held p in
          let y = two.side corner at (keep corner linked) held q in
          let h = o.side corner at (linked_same n (3 * faces) (omega arith) u v (front_same n faces u v two.outside) corner (keep corner linked)) held s in
          record {
            leaves = λ t g l.
                h.leaves g l
                ∙ ap (offered (ca && has (edge c a) (at g)) faces g) (y.leaves g l ∙ ap (offered (bc && has (edge b c) (at g)) faces g) (x.leaves g l));
            few_ab = λ t e. x.few refl e;
            few_bc = λ t e. y.few refl e;
            few_ca = λ t e. h.few t e;
            crowd = λ t. (edge c a, h.crowd t);
          };
    }

-- ---- whether it fits
pub fitting_fits : (p q r s : Bool) → fitting (bit p + bit q + bit r) s
    ≡ (eqb (bit (not p) + (bit (not q) + (bit (not r) + 0))) 3 || (s && eqb (bit (not p) + (bit (not q) + (bit (not r) + 0))) 1))
unfolding fitting
fitting_fits true true true true = refl
fitting_fits true true true false = refl
fitting_fits true true false true = refl
fitting_fits true true false false = refl
fitting_fits true false true true = refl
fitting_fits true false true false = refl
fitting_fits true false false true = refl
fitting_fits true false false false = refl
fitting_fits false true true true = refl
fitting_fits false true true false = refl
fitting_fits false true false true = refl
fitting_fits false true false false = refl
fitting_fits false false true true = refl
fitting_fits false false true false = refl
fitting_fits false false false true = refl
fitting_fits false false false false = refl

-- a word tells a flag
flag_is : (v : ℕ) (b : Bool) → v ≡ bit b → not (eqb v 0) ≡ b
flag_is v true e = ap (λ (k : ℕ). not (eqb k 0)) e
flag_is v false e = ap (λ (k : ℕ). not (eqb k 0)) e

opens_both : (p q : Bool) → opens p q ≡ not (p && q)
opens_both true true = refl
opens_both true false = refl
opens_both false true = refl
opens_both false false = refl

-- ---- values
module _ (at : ℕ → Face) (faces : ℕ) (placed : List ℕ) (g : ℕ) where
  pub value_placed : any (eqb g) placed ≡ true → value at faces placed g ≡ 2 * faces
  unfolding value
  value_placed h = rw (h, value)

  pub value_joined : any (eqb g) placed ≡ false → joined at placed g ≡ true → value at faces placed g ≡ g
  unfolding value
  value_joined h k = rw (h, k, value)

  pub value_left : any (eqb g) placed ≡ false → joined at placed g ≡ false → value at faces placed g ≡ faces + g
  unfolding value
  value_left h k = rw (h, k, value)

module _ (faces g : ℕ) (some : 1 ≤ faces) where
  kept_any : (t : Bool) (v : ℕ) → v ≢ faces + g → offered t faces g v ≡ v
  kept_any true v h = offered_kept faces g v h
  kept_any false v h = offered_no faces g v

  kept_three : (p q r : Bool) (v : ℕ) → v ≢ faces + g → offered r faces g (offered q faces g (offered p faces g v)) ≡ v
  kept_three p q r v h = ap (offered r faces g) (ap (offered q faces g) (kept_any p v h) ∙ kept_any q v h) ∙ kept_any r v h

  self : g ≢ faces + g
  self e = omega arith

  some_three : (p q r : Bool) → (p || (q || r)) ≡ true → offered r faces g (offered q faces g (offered p faces g (faces + g))) ≡ g
  some_three true q r h = ap (offered r faces g) (ap (offered q faces g) (offered_left faces g (faces + g) refl) ∙ kept_any q g self) ∙ kept_any r g self
  some_three false true r h = ap (offered r faces g)
      (ap (offered true faces g) (offered_no faces g (faces + g)) ∙ offered_left faces g (faces + g) refl) ∙ kept_any r g self
  some_three false false r h =
      ap (offered r faces g) (ap (offered false faces g) (offered_no faces g (faces + g)) ∙ offered_no faces g (faces + g))
      ∙ ap (λ (b : Bool). offered b faces g (faces + g)) h ∙ offered_left faces g (faces + g) refl

  none_three : (p q r : Bool) → (p || (q || r)) ≡ false → offered r faces g (offered q faces g (offered p faces g (faces + g))) ≡ faces + g
  none_three true q r h = absurd (true_not_false refl h)
  none_three false true r h = absurd (true_not_false refl h)
  none_three false false r h =
      ap (offered r faces g) (ap (offered false faces g) (offered_no faces g (faces + g)) ∙ offered_no faces g (faces + g))
      ∙ ap (λ (b : Bool). offered b faces g (faces + g)) h ∙ offered_no faces g (faces + g)

-- ---- flags
flag : (base : ℕ) (u : List ℕ) (p x : ℕ) (before : Bool) → base + p < length u → get_or u (base + x) 0 ≡ bit before → get_or (set u (base + p) 1) (base + x) 0
    ≡ bit (eqb x p || before)
flag base u p x before l h = ⊎_elim
    (λ (t : eqb x p ≡ true).
    let e : base + x ≡ base + p = ap (λ (k : ℕ). base + k) (eqb-true x p t) in
    ap (λ (k : ℕ). get_or (set u (base + p) 1) k 0) e ∙ get_or-set_same u (base + p) 1 0 l ∙ sym (ap (λ (b : Bool). bit (b || before)) t))
    (λ (t : eqb x p ≡ false).
    let ne = eqb-false x p t in
    get_or-set_other u (base + p) (base + x) 1 0 (λ (q : base + x ≡ base + p). ne (omega arith)) ∙ h ∙ sym (ap (λ (b : Bool). bit (b || before)) t))
    (either (eqb x p))

turned : (p q r s : Bool) → (r || (q || (p || s))) ≡ ((p || (q || (r || false))) || s)
turned true true true s = refl
turned true true false s = refl
turned true false true s = refl
turned true false false s = refl
turned false true true s = refl
turned false true false s = refl
turned false false true s = refl
turned false false false s = refl

touches_or : (x : ℕ) (f : Face) → touches x f ≡ (eqb x f.a || (eqb x f.b || (eqb x f.c || false)))
unfolding touches
touches_or x f =
    any_cons (eqb x) f.a (f.b ∷ f.c ∷ [])
    ∙ ap (λ (b : Bool). eqb x f.a || b)
    (any_cons (eqb x) f.b (f.c ∷ []) ∙ ap (λ (b : Bool). eqb x f.b || b)
    (any_cons (eqb x) f.c [] ∙ ap (λ (b : Bool). eqb x f.c || b) (false_any (eqb x) [] refl)))

-- the flags of a face's points set
three_used : (base : ℕ) (u : List ℕ) (f : Face) (x : ℕ) (before : Bool) → base + f.a < length u → base + f.b < length u → base + f.c < length u
    → get_or u (base + x) 0 ≡ bit before
    → get_or (set (set (set u (base + f.a) 1) (base + f.b) 1) (base + f.c) 1) (base + x) 0 ≡ bit (touches x f || before)
three_used base u f x before la lb lc h =
    let u1 = set u (base + f.a) 1 in
    let u2 = set u1 (base + f.b) 1 in
    let l1 = length-set u (base + f.a) 1 in
    let l2 = length-set u1 (base + f.b) 1 in
    let one = flag base u f.a x before la h in
    let two = flag base u1 f.b x (eqb x f.a || before) (omega arith) one in
    let three = flag base u2 f.c x (eqb x f.b || (eqb x f.a || before)) (omega arith) two in
    three ∙ ap bit (turned (eqb x f.a) (eqb x f.b) (eqb x f.c) before ∙ ap (λ (b : Bool). b || before) (sym (touches_or x f)))

-- no word but those flags has changed
three_else : (base : ℕ) (u : List ℕ) (f : Face) (k : ℕ) → k ≢ base + f.a → k ≢ base + f.b → k ≢ base + f.c
    → get_or (set (set (set u (base + f.a) 1) (base + f.b) 1) (base + f.c) 1) k 0 ≡ get_or u k 0
three_else base u f k a b c =
    get_or-set_other (set (set u (base + f.a) 1) (base + f.b) 1) (base + f.c) k 1 0 c
    ∙ get_or-set_other (set u (base + f.a) 1) (base + f.b) k 1 0 b
    ∙ get_or-set_other u (base + f.a) k 1 0 a

-- ---- a face that fits is placed
module _ (n faces i : ℕ) (corner : ℕ → ℕ) (at : ℕ → Face) (placed : List ℕ) (few : faces ≤ n) (below : i < faces)
    (points : ((at i).a < n) × ((at i).b < n) × ((at i).c < n)) where
  abbrev ra : Bool
  ra = reached at placed (at i).a

  abbrev rb : Bool
  rb = reached at placed (at i).b

  abbrev rc : Bool
  rc = reached at placed (at i).c

  module _ (w u z : List ℕ) (held : Faces faces corner at) (kept : PlacedKept n faces corner at placed w) (fit : fits at placed i ≡ true)
      (renewed : Renewed (tree_at n) faces i (2 * faces) w u) (long : tree_end n ≤ length u) where
    abbrev v : List ℕ
    v = set (set (set u (reached_words_at n + (at i).a) 1) (reached_words_at n + (at i).b) 1) (reached_words_at n + (at i).c) 1

    beside : (k : ℕ) → (k < reached_words_at n) ⊎ (tree_at n ≤ k) → get_or v k 0 ≡ get_or u k 0
    beside k s =
        let p = points in
        ⊎_elim
        (λ (l : k < reached_words_at n). three_else (reached_words_at n) u (at i) k (λ (q : k ≡ reached_words_at n + (at i).a). omega arith)
        (λ (q : k ≡ reached_words_at n + (at i).b). omega arith) (λ (q : k ≡ reached_words_at n + (at i).c). omega arith))
        (λ (l : tree_at n ≤ k). three_else (reached_words_at n) u (at i) k (λ (q : k ≡ reached_words_at n + (at i).a). omega (arith, p.0))
        (λ (q : k ≡ reached_words_at n + (at i).b). omega (arith, p.1)) (λ (q : k ≡ reached_words_at n + (at i).c). omega (arith, p.2)))
        s

    pub linked_v : CornersLinked n (3 * faces) corner v
    linked_v = linked_same n (3 * faces) (omega arith) w v (λ k l. beside k (inl l) ∙ renewed.outside k (inl (omega arith))) corner kept.linked

    module _ (around : Arounds n faces (at i).a (at i).b (at i).c (not (ra && rb)) (not (rb && rc)) (not (rc && ra)) true v z) where
      linked_z : CornersLinked n (3 * faces) corner z
      linked_z = linked_same n (3 * faces) (omega arith) v z (front_same n faces v z around.outside) corner linked_v

      sides : AllSidesOpened n faces (at i).a (at i).b (at i).c (not (ra && rb)) (not (rb && rc)) (not (rc && ra)) true at v z
      sides = let d = held.different i below in around.sides corner at linked_v held d.0 d.1 d.2

      used_z : (x : ℕ) → x < n → get_or z (reached_words_at n + x) 0 ≡ bit (reached at (i ∷ placed) x)
      unfolding reached
      used_z x l =
          let p = points in
          around.outside (reached_words_at n + x) (inl (omega arith))
          ∙ three_used (reached_words_at n) u (at i) x (reached at placed x) (omega (arith, p.0)) (omega (arith, p.1)) (omega (arith, p.2))
          (renewed.outside (reached_words_at n + x) (inl (omega arith)) ∙ kept.used x l)
          ∙ ap bit (sym (any_cons (λ j. touches x (at j)) i placed))

      nodes_z : Nodes (tree_at n) faces z
      nodes_z = around.nodes (nodes_same (tree_at n) faces v u (λ k l. beside k (inr l)) (renewed.nodes kept.nodes))

      -- an edge of the face: new, or laid before
      closed : (p q : Bool) → not (p && q) ≡ false → (p ≡ true) × (q ≡ true)
      closed true true h = (refl, refl)
      closed true false h = absurd (true_not_false refl h)
      closed false q h = absurd (true_not_false refl h)

      abbrev eab : Edge
      eab = edge (at i).a (at i).b

      abbrev ebc : Edge
      ebc = edge (at i).b (at i).c

      abbrev eca : Edge
      eca = edge (at i).c (at i).a

      old_1 : not (ra && rb) ≡ false → is_placed at placed eab ≡ true
      old_1 h = let s = closed ra rb h in old_ab at placed i fit s.0 s.1

      old_2 : not (rb && rc) ≡ false → is_placed at placed ebc ≡ true
      old_2 h = let s = closed rb rc h in old_bc at placed i fit s.0 s.1

      old_3 : not (rc && ra) ≡ false → is_placed at placed eca ≡ true
      old_3 h = let s = closed rc ra h in old_ca at placed i fit s.0 s.1

      -- no edge of it lies in three faces
      few_edge : (new : Bool) (e : Edge) → (new ≡ true → lies faces at e ≤ 2) → (new ≡ false → is_placed at placed e ≡ true) → lies faces at e ≤ 2
      few_edge true e h k = h refl
      few_edge false e h k = kept.few e (k refl)

      alike : (d e : Edge) → same e d ≡ true → lies faces at d ≤ 2 → lies faces at e ≤ 2
      alike d e h k =
          let many : lies faces at e ≡ lies faces at d = count_ext (λ g. has e (at g)) (λ g. has d (at g)) (λ g. has_congr e d h (at g)) (up_from 0 faces) in
          omega arith

      few_z : (e : Edge) → is_placed at (i ∷ placed) e ≡ true → lies faces at e ≤ 2
      few_z e h = ⊎_elim
          (λ (k : has e (at i) ≡ true). ⊎_elim
          (λ (s : same e eab ≡ true). alike eab e s (few_edge (not (ra && rb)) eab (sides.few_ab refl) old_1))
          (⊎_elim
          (λ (s : same e ebc ≡ true). alike ebc e s (few_edge (not (rb && rc)) ebc (sides.few_bc refl) old_2))
          (λ (s : same e eca ≡ true). alike eca e s (few_edge (not (rc && ra)) eca (sides.few_ca refl) old_3)))
          (has_which e (at i) k))
          (λ (k : is_placed at placed e ≡ true). kept.few e k)
          (or_either (has e (at i)) (is_placed at placed e) (sym (any_cons (λ j. has e (at j)) i placed) ∙ h))

      -- which faces are offered
      module _ (g : ℕ) (in_range_lem : g < faces) where
        abbrev t1 : Bool
        t1 = not (ra && rb) && has eab (at g)

        abbrev t2 : Bool
        t2 = not (rb && rc) && has ebc (at g)

        abbrev t3 : Bool
        t3 = not (rc && ra) && has eca (at g)

        joined_more : joined at (i ∷ placed) g ≡ (neighbours (at g) (at i) || joined at placed g)
        unfolding joined
        joined_more = any_cons (λ j. neighbours (at g) (at j)) i placed

        offered_joined : (t1 || (t2 || t3)) ≡ true → joined at (i ∷ placed) g ≡ true
        offered_joined h = joined_more ∙ or_left (neighbours (at g) (at i)) (joined at placed g) (neighbours_sym (at i) (at g) shares)
          where
            shares : neighbours (at i) (at g) ≡ true
            shares = ⊎_elim
                (λ (s : t1 ≡ true). by_edge eab (own_ab (at i)) (and_both {p = not (ra && rb)} {q = has eab (at g)} s).1)
                (λ (s : (t2 || t3) ≡ true). ⊎_elim
                (λ (q : t2 ≡ true). by_edge ebc (own_bc (at i)) (and_both {p = not (rb && rc)} {q = has ebc (at g)} q).1)
                (λ (q : t3 ≡ true). by_edge eca (own_ca (at i)) (and_both {p = not (rc && ra)} {q = has eca (at g)} q).1)
                (or_either t2 t3 s))
                (or_either t1 (t2 || t3) h)
              where
                by_edge : (e : Edge) → has e (at i) ≡ true → has e (at g) ≡ true → neighbours (at i) (at g) ≡ true
                by_edge e = own_edge e (at i) (at g)

        covers : (new : Bool) (e : Edge) → (new ≡ false → is_placed at placed e ≡ true) → joined at placed g ≡ false → has e (at g) ≡ true
            → (new && has e (at g)) ≡ true
        covers true e h none k = k
        covers false e h none k = absurd (true_not_false (laid_joined at placed e g (h refl) k) none)

        joined_offered : joined at placed g ≡ false → joined at (i ∷ placed) g ≡ true → (t1 || (t2 || t3)) ≡ true
        joined_offered none h = ⊎_elim
            (λ (s : neighbours (at g) (at i) ≡ true). ⊎_elim
            (λ (k : has eab (at g) ≡ true). or_left t1 (t2 || t3) (covers (not (ra && rb)) eab old_1 none k))
            (⊎_elim
            (λ (k : has ebc (at g) ≡ true). or_right t1 (t2 || t3) (or_left t2 t3 (covers (not (rb && rc)) ebc old_2 none k)))
            (λ (k : has eca (at g) ≡ true). or_right t1 (t2 || t3) (or_right t2 t3 (covers (not (rc && ra)) eca old_3 none k))))
            (neighbours_which (at i) (at g) (neighbours_sym (at g) (at i) s)))
            (λ (s : joined at placed g ≡ true). absurd (true_not_false s none))
            (or_either (neighbours (at g) (at i)) (joined at placed g) (sym joined_more ∙ h))

        leaf_v : leaf (tree_at n) faces v g ≡ leaf (tree_at n) faces u g
        leaf_v = beside (tree_at n + faces + g) (inr (omega arith))

        leaf_z : leaf (tree_at n) faces z g ≡ offered t3 faces g (offered t2 faces g (offered t1 faces g (leaf (tree_at n) faces u g)))
        leaf_z = sides.leaves refl g in_range_lem ∙ ap (λ (x : ℕ). offered t3 faces g (offered t2 faces g (offered t1 faces g x))) leaf_v

        in_placed : any (eqb g) (i ∷ placed) ≡ (eqb g i || any (eqb g) placed)
        in_placed = any_cons (eqb g) i placed

        stays : leaf (tree_at n) faces u g ≡ 2 * faces → any (eqb g) (i ∷ placed) ≡ true → leaf (tree_at n) faces z g ≡ value at faces (i ∷ placed) g
        stays is placed-now =
            leaf_z ∙ ap (λ (x : ℕ). offered t3 faces g (offered t2 faces g (offered t1 faces g x))) is
            ∙ kept_three faces g (omega arith) t1 t2 t3 (2 * faces) (λ (q : 2 * faces ≡ faces + g). omega arith)
            ∙ sym (value_placed at faces (i ∷ placed) g placed-now)

        left_value : (g ≢ i) → any (eqb g) placed ≡ false → leaf (tree_at n) faces z g ≡ value at faces (i ∷ placed) g
        left_value other out =
            let before : leaf (tree_at n) faces u g ≡ value at faces placed g = renewed.others g in_range_lem other ∙ kept.values g in_range_lem in
            let out-now : any (eqb g) (i ∷ placed) ≡ false = in_placed ∙ ap (λ (b : Bool). b || any (eqb g) placed) (ne_eqb g i other) ∙ out in
            ⊎_elim
            (λ (j : joined at placed g ≡ true).
            leaf_z ∙ ap (λ (x : ℕ). offered t3 faces g (offered t2 faces g (offered t1 faces g x))) (before ∙ value_joined at faces placed g out j)
            ∙ kept_three faces g (omega arith) t1 t2 t3 g (self faces g (omega arith))
            ∙ sym (value_joined at faces (i ∷ placed) g out-now (joined_more ∙ or_right (neighbours (at g) (at i)) (joined at placed g) j)))
            (λ (j : joined at placed g ≡ false).
            leaf_z ∙ ap (λ (x : ℕ). offered t3 faces g (offered t2 faces g (offered t1 faces g x))) (before ∙ value_left at faces placed g out j)
            ∙ ⊎_elim
            (λ (t : (t1 || (t2 || t3)) ≡ true). some_three faces g (omega arith) t1 t2 t3 t ∙ sym
            (value_joined at faces (i ∷ placed) g out-now (offered_joined t)))
            (λ (t : (t1 || (t2 || t3)) ≡ false).
            none_three faces g (omega arith) t1 t2 t3 t
            ∙ sym (value_left at faces (i ∷ placed) g out-now (not-true (λ (h : joined at (i ∷ placed) g ≡ true). true_not_false (joined_offered j h) t))))
            (either (t1 || (t2 || t3))))
            (either (joined at placed g))

        values_z : leaf (tree_at n) faces z g ≡ value at faces (i ∷ placed) g
        values_z = ⊎_elim
            (λ (s : eqb g i ≡ true).
            let e = eqb-true g i s in
            stays (ap (leaf (tree_at n) faces u) e ∙ renewed.renewed) (in_placed ∙ or_left (eqb g i) (any (eqb g) placed) s))
            (λ (s : eqb g i ≡ false).
            let other = eqb-false g i s in
            ⊎_elim
            (λ (p : any (eqb g) placed ≡ true). stays (renewed.others g in_range_lem other ∙ kept.values g in_range_lem ∙ value_placed at faces placed g p)
            (in_placed ∙ or_right (eqb g i) (any (eqb g) placed) p))
            (λ (p : any (eqb g) placed ≡ false). left_value other p)
            (either (any (eqb g) placed)))
            (either (eqb g i))

      pub kept_more : PlacedKept n faces corner at (i ∷ placed) z
      kept_more = record { linked = linked_z; used = used_z; nodes = nodes_z; values = values_z; few = few_z }

-- ---- what the words tell of a face
module _ (n faces i : ℕ) (few : faces ≤ n) (below : i < faces) (w : List ℕ) (bound : Bound n (3 * faces) w) where
  abbrev a : ℕ
  a = get_or w (3 * i) 0

  abbrev b : ℕ
  b = get_or w (3 * i + 1) 0

  abbrev c : ℕ
  c = get_or w (3 * i + 2) 0

  abbrev ua : Bool
  ua = not (eqb (get_or w (reached_words_at n + a) 0) 0)

  abbrev ub : Bool
  ub = not (eqb (get_or w (reached_words_at n + b) 0) 0)

  abbrev uc : Bool
  uc = not (eqb (get_or w (reached_words_at n + c) 0) 0)

  pub points_below : (a < n) × (b < n) × (c < n)
  points_below = (bound.points (3 * i) (omega arith), bound.points (3 * i + 1) (omega arith), bound.points (3 * i + 2) (omega arith))

  module _ (corner : ℕ → ℕ) (at : ℕ → Face) (placed : List ℕ) (held : Faces faces corner at) (kept : PlacedKept n faces corner at placed w) where
    face_is : face a b c ≡ at i
    face_is =
        let l = kept.linked in
        let ea = l.corners (3 * i) (omega arith) in
        let eb = l.corners (3 * i + 1) (omega arith) in
        let ec = l.corners (3 * i + 2) (omega arith) in
        (λ k. face (ea k) (eb k) (ec k)) ∙ sym (held.are i below)

    inside : ((at i).a < n) × ((at i).b < n) × ((at i).c < n)
    inside = subst (λ (f : Face). (f.a < n) × (f.b < n) × (f.c < n)) face_is points_below

    flag_of : (x y : ℕ) → x ≡ y → x < n → not (eqb (get_or w (reached_words_at n + x) 0) 0) ≡ reached at placed y
    flag_of x y e l = flag_is (get_or w (reached_words_at n + x) 0) (reached at placed x) (kept.used x l) ∙ ap (λ (k : ℕ). reached at placed k) e

    ua_is : ua ≡ reached at placed (at i).a
    ua_is = flag_of a (at i).a (ap (λ (f : Face). f.a) face_is) points_below.0

    ub_is : ub ≡ reached at placed (at i).b
    ub_is = flag_of b (at i).b (ap (λ (f : Face). f.b) face_is) points_below.1

    uc_is : uc ≡ reached at placed (at i).c
    uc_is = flag_of c (at i).c (ap (λ (f : Face). f.c) face_is) points_below.2

    fits_is : (shared : Bool) → shared ≡ joined at placed i → fitting (bit ua + bit ub + bit uc) shared ≡ fits at placed i
    unfolding fits fresh
    fits_is shared s =
        let ka = ua_is in
        let kb = ub_is in
        let kc = uc_is in
        (λ k. fitting (bit (ka k) + bit (kb k) + bit (kc k)) (s k))
        ∙ fitting_fits (reached at placed (at i).a) (reached at placed (at i).b) (reached at placed (at i).c) (joined at placed i)

    opens_is : (x y p q : Bool) → x ≡ p → y ≡ q → opens x y ≡ not (p && q)
    opens_is x y p q e f = (λ k. opens (e k) (f k)) ∙ opens_both p q

  module _ (shared : Bool) where
    pub place_unfit : fitting (bit ua + bit ub + bit uc) shared ≡ false → Places n faces i shared false w w
    place_unfit h = record {
      outside = λ k s. refl;
      places = λ corner at placed held kept s. record {
        kept = λ t. absurd (true_not_false t refl);
        fit = λ t. absurd (true_not_false t refl);
        unfit = λ _. inl (sym (fits_is corner at placed held kept shared s) ∙ h);
      };
    }

    module _ (u z : List ℕ) (r : Bool) (fitted : fitting (bit ua + bit ub + bit uc) shared ≡ true) (renewed : Renewed (tree_at n) faces i (2 * faces) w u)
        (long : tree_end n ≤ length u) where
      abbrev marked : Face → List ℕ
      marked f = set (set (set u (reached_words_at n + f.a) 1) (reached_words_at n + f.b) 1) (reached_words_at n + f.c) 1

      module _ (m : List ℕ) (is : m ≡ marked (face a b c)) (around-m : Arounds n faces a b c (opens ua ub) (opens ub uc) (opens uc ua) r m z) where
        around : Arounds n faces a b c (opens ua ub) (opens ub uc) (opens uc ua) r (marked (face a b c)) z
        around = subst (λ (l : List ℕ). Arounds n faces a b c (opens ua ub) (opens ub uc) (opens uc ua) r l z) is around-m

        module _ (corner : ℕ → ℕ) (at : ℕ → Face) (placed : List ℕ) (held : Faces faces corner at) (kept : PlacedKept n faces corner at placed w) where
          abbrev R : ℕ → Bool
          R x = reached at placed x

          around_at : Arounds n faces (at i).a (at i).b (at i).c (not (R (at i).a && R (at i).b)) (not (R (at i).b && R (at i).c))
              (not (R (at i).c && R (at i).a)) r (marked (at i)) z
          around_at =
              let f = face_is corner at placed held kept in
              let pa = ua_is corner at placed held kept in
              let pb = ub_is corner at placed held kept in
              let pc = uc_is corner at placed held kept in
              let e1 = opens_is corner at placed held kept ua ub (R (at i).a) (R (at i).b) pa pb in
              let e2 = opens_is corner at placed held kept ub uc (R (at i).b) (R (at i).c) pb pc in
              let e3 = opens_is corner at placed held kept uc ua (R (at i).c) (R (at i).a) pc pa in
              transport (λ k. Arounds n faces (f k).a (f k).b (f k).c (e1 k) (e2 k) (e3 k) r (marked (f k)) z) around

          fit_at : (shared ≡ joined at placed i) → fits at placed i ≡ true
          fit_at s = sym (fits_is corner at placed held kept shared s) ∙ fitted

          placed_at : (shared ≡ joined at placed i) → Placed n faces i r corner at placed z
          placed_at s = record {
            kept = λ t. kept_more n faces i corner at placed few below (inside corner at placed held kept) w u z held kept (fit_at s) renewed long
                (subst (λ (q : Bool). Arounds n faces (at i).a (at i).b (at i).c (not (R (at i).a && R (at i).b)) (not (R (at i).b && R (at i).c))
                (not (R (at i).c && R (at i).a)) q (marked (at i)) z) t around_at);
            fit = λ _. fit_at s;
            unfit = λ t.
                let d = held.different i below in
                let l = linked_v n faces i corner at placed few below (inside corner at placed held kept) w u z held kept (fit_at s) renewed long in
                inr ((around_at.sides corner at l held d.0 d.1 d.2).crowd t);
          }

        pub place_done : Places n faces i shared r w z
        place_done = record {
          outside = λ k s.
              let p = points_below in
              let m = marked_else k s in
              ⊎_elim
              (λ (l : k < reached_words_at n). around.outside k (inl (omega arith)) ∙ m ∙ renewed.outside k (inl (omega arith)))
              (λ (l : tree_end n ≤ k). around.outside k (inr (omega arith)) ∙ m ∙ renewed.outside k (inr (omega arith)))
              s;
          places = λ corner at placed held kept s. placed_at corner at placed held kept s;
        }
          where
            marked_else : (k : ℕ) → (k < reached_words_at n) ⊎ (tree_end n ≤ k) → get_or (marked (face a b c)) k 0 ≡ get_or u k 0
            marked_else k s =
                let p = points_below in
                ⊎_elim
                (λ (l : k < reached_words_at n). three_else (reached_words_at n) u (face a b c) k (λ (q : k ≡ reached_words_at n + a). omega arith)
                (λ (q : k ≡ reached_words_at n + b). omega arith) (λ (q : k ≡ reached_words_at n + c). omega arith))
                (λ (l : tree_end n ≤ k). three_else (reached_words_at n) u (face a b c) k (λ (q : k ≡ reached_words_at n + a). omega (arith, p.0))
                (λ (q : k ≡ reached_words_at n + b). omega (arith, p.1)) (λ (q : k ≡ reached_words_at n + c). omega (arith, p.2)))
                s

-- the three ways out of the question whether it fits
module _ (p q r shared : Bool) (x y z : ℕ) (ex : x ≡ bool_byte p) (ey : y ≡ bool_byte q) (ez : z ≡ bool_byte r) where
  all : x + y + z ≡ bit p + bit q + bit r
  all = omega (arith, byte_bit p, byte_bit q, byte_bit r)

  pub fitting_none : x + y + z ≡ 0 → eqb (x + y + z) 0 ≡ fitting (bit p + bit q + bit r) shared
  unfolding fitting
  fitting_none e = rw (← all, eq-eqb (x + y + z) 0 e)

  pub fitting_shared : x + y + z ≢ 0 → shared ≡ true → eqb (x + y + z) 2 ≡ fitting (bit p + bit q + bit r) shared
  unfolding fitting
  fitting_shared e h = rw (← all, ne_eqb (x + y + z) 0 e, h)

  pub fitting_apart : x + y + z ≢ 0 → shared ≡ false → shared ≡ fitting (bit p + bit q + bit r) shared
  unfolding fitting
  fitting_apart e h = rw (← all, ne_eqb (x + y + z) 0 e, h)
