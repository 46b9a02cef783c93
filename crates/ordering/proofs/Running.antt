-- The greedy order face by face: what the least value tells, a step, and the two ends. Assumes nothing.
use Prim.Native.Nat.{ℕ, suc, ◌+◌, ◌-◌, ◌*◌, ◌≤◌, ◌<◌, min}
use mathlib.Core.Path.{◌≡◌, refl, sym, ap, ap₂, ◌∙◌, subst}
use mathlib.Core.Logic.{◌≢◌, inl, inr, ⊎_elim}
use mathlib.Core.Bool.{Bool, true, false, not, ◌&&◌}
use mathlib.Core.List.{List, [], ◌∷◌}
use native.Mathlib.Omega.{arith}
use lib.Dec.{eqb, ltb}
use lib.ListN.{length, set, get_or}
use lib.Seq.{get_or-set_same, get_or-set_other}
use borrow.Author.Tests.{eqb-true, eqb-false, ltb-true, lt-ltb, le-ltb}
use Rattle.lists.specs.Lists.{bit, count, any, up_from}
use Rattle.lists.specs.Members.{In}
use Rattle.lists.proofs.Bools.{either, not-true, true_not_false, and_false}
use Rattle.lists.proofs.Counts.{bit_le, bit_true, any_false, false_any}
use Rattle.lists.proofs.Members.{in_head}
use Rattle.patch.specs.Lay.{Edge, Face}
use Rattle.patch.specs.Shape.{has}
use Rattle.orders.specs.Order.{joined, fits, all_fit, loose, first_or, without, greedy_from, face_at, greedy, seeds, AllDifferent, crowded, order_accepted}
use Rattle.orders.proofs.Sums.{recount}
use Rattle.orders.proofs.Least.{without_count, without_length}
use Rattle.orders.proofs.Decide.{numbers_length, numbers_permute, few_uncrowded, uncrowded_few}
use Rattle.orders.proofs.Patches.{by_number}
use Rattle.minima.proofs.Trees.{Leaf, root_least, root_leaf}
use Rattle.corners.specs.Corners.{Bound}
use Rattle.corners.proofs.Chain.{linked_same, bound_same}
use Rattle.offers.specs.Inner.Offers.{Faces}
use Rattle.placing.specs.Inner.Placing.{lies, is_placed, value, PlacedKept, Places}
use Rattle.placing.proofs.Keeping.{value_placed, value_joined, value_left}
use Rattle.regions.specs.Inner.Ordering.{reached_words_at, tree_at, tree_end, placed_at}
use Rattle.std.specs.Prelude.{Some, None}
use Rattle.ordering.specs.Inner.Ordering.{least_face, OrderFound, FindsOrder}
use Rattle.ordering.proofs.Rising.{Rising, rising_up, rising_without, first_is, first_default, head_least}

pub face_low : (faces root : ℕ) → root < faces → least_face faces root ≡ root
unfolding least_face
face_low faces root l = rw (lt-ltb root faces l)

pub face_high : (faces root : ℕ) → faces ≤ root → least_face faces root ≡ root - faces
unfolding least_face
face_high faces root l = rw (le-ltb root faces l)

-- words past the tree don't matter
pub kept_same : (n faces : ℕ) (few : faces ≤ n) (corner : ℕ → ℕ) (at : ℕ → Face) (placed v w : List ℕ) → ((k : ℕ) → k < tree_end n → get_or w k 0 ≡ get_or v k 0)
    → PlacedKept n faces corner at placed v → PlacedKept n faces corner at placed w
kept_same n faces few corner at placed v w same h = record {
  linked = linked_same n (3 * faces) (omega arith) v w (λ k l. same k (omega arith)) corner h.linked;
  used = λ x l. same (reached_words_at n + x) (omega arith) ∙ h.used x l;
  nodes = λ k l m.
      same (tree_at n + k) (omega arith) ∙ h.nodes k l m
      ∙ ap₂ min (sym (same (tree_at n + 2 * k) (omega arith))) (sym (same (tree_at n + 2 * k + 1) (omega arith)));
  values = λ g l. same (tree_at n + faces + g) (omega arith) ∙ h.values g l;
  few = h.few;
}

module _ (n faces : ℕ) (few : faces ≤ n) (corner : ℕ → ℕ) (at : ℕ → Face) where
  -- ---- the face that comes next
  module _ (placed left w : List ℕ) (kept : PlacedKept n faces corner at placed w) (rising : Rising left)
      (counts : (g : ℕ) → count (eqb g) left + count (eqb g) placed ≡ bit (ltb g faces)) where
    left_below : (k : ℕ) → In k left → k < faces
    left_below k h = let c = counts k in ltb-true k faces (bit_true {b = ltb k faces} (omega arith))

    left_out : (k : ℕ) → In k left → any (eqb k) placed ≡ false
    left_out k h = let c = counts k in let b = bit_le (ltb k faces) in false_any (eqb k) placed (omega arith)

    out_left : (k : ℕ) → k < faces → any (eqb k) placed ≡ false → In k left
    out_left k l h =
        let c = counts k in
        let z = any_false (eqb k) placed h in
        let o : bit (ltb k faces) ≡ 1 = ap bit (lt-ltb k faces l) in
        omega arith

    abbrev root : ℕ
    root = get_or w (tree_at n + 1) 0

    root_le : (k : ℕ) → k < faces → root ≤ value at faces placed k
    root_le k l = let r = root_least (tree_at n) faces w kept.nodes k l in let v = kept.values k l in omega arith

    pub record Next (x : ℕ) (rest : List ℕ) : Type 0 where
      pub below : least_face faces root < faces
      pub shared : ltb root faces ≡ joined at placed (least_face faces root)
      pub first : first_or (joined at placed) x (x ∷ rest) ≡ least_face faces root
      pub is_left_lem : In (least_face faces root) left

    pub next_face : (x : ℕ) (rest : List ℕ) → left ≡ x ∷ rest → Next x rest
    next_face x rest e = found (root_leaf (tree_at n) faces w kept.nodes (let b = left_below x in_x in omega arith))
      where
        in_x : In x left
        in_x = subst (λ (l : List ℕ). In x l) (sym e) (in_head x rest)

        risen : Rising (x ∷ rest)
        risen = subst Rising e rising

        back : (k : ℕ) → In k (x ∷ rest) → In k left
        back k h = subst (λ (l : List ℕ). In k l) (sym e) h

        small : root < 2 * faces
        small =
            let b = left_below x in_x in
            let r = root_le x b in
            ⊎_elim
            (λ (j : joined at placed x ≡ true). let v = value_joined at faces placed x (left_out x in_x) j in omega arith)
            (λ (j : joined at placed x ≡ false). let v = value_left at faces placed x (left_out x in_x) j in omega arith)
            (either (joined at placed x))

        found : Leaf (tree_at n) faces w root → Next x rest
        found f =
            let g = f.element in
            let value-is : root ≡ value at faces placed f.element = f.is ∙ kept.values f.element f.below in
            let out : any (eqb f.element) placed
            ≡ false = not-true (λ (t : any (eqb f.element) placed ≡ true).
            (let v = value_placed at faces placed f.element t in let s = small in omega arith)) in
            let in_g = out_left f.element f.below out in
            ⊎_elim
            (λ (j : joined at placed f.element ≡ true).
            let r : root ≡ f.element = value-is ∙ value_joined at faces placed f.element out j in
            let lt : root < faces = (let b = f.below in omega arith) in
            let face_is : least_face faces root ≡ f.element = face_low faces root lt ∙ r in
            record {
              below = (let b = f.below in omega arith);
              shared = lt-ltb root faces lt ∙ sym (ap (joined at placed) face_is ∙ j);
              first = first_is (joined at placed) x f.element (x ∷ rest) risen (subst (λ (l : List ℕ). In f.element l) e in_g) j
                  (λ k h u. (let v = value_joined at faces placed k (left_out k (back k h)) u in let q = root_le k (left_below k (back k h)) in omega arith))
                  ∙ sym face_is;
              is_left_lem = subst (λ (k : ℕ). In k left) (sym face_is) in_g;
            })
            (λ (j : joined at placed f.element ≡ false).
            let r : root ≡ faces + f.element = value-is ∙ value_left at faces placed f.element out j in
            let ge : faces ≤ root = omega arith in
            let face_is : least_face faces root ≡ f.element = face_high faces root ge ∙ (omega arith) in
            let none : (k : ℕ) → In k (x ∷ rest) → joined at placed k ≡ true → ⊥ = λ k h u.
            (let v = value_joined at faces placed k (left_out k (back k h)) u in let q = root_le k (left_below k (back k h)) in let b = left_below k
            (back k h) in omega arith) in
            record {
              below = (let b = f.below in omega arith);
              shared = le-ltb root faces ge ∙ sym (ap (joined at placed) face_is ∙ j);
              first = first_default (joined at placed) x (x ∷ rest) none
                  ∙ head_least x f.element rest risen (subst (λ (l : List ℕ). In f.element l) e in_g)
                  (λ k h. (let v = value_left at faces placed k (left_out k (back k h)) (not-true (none k h)) in let q = root_le k
                  (left_below k (back k h)) in omega arith))
                  ∙ sym face_is;
              is_left_lem = subst (λ (k : ℕ). In k left) (sym face_is) in_g;
            })
            (either (joined at placed f.element))

  -- the greedy order from here on
  abbrev pub ahead : List ℕ → List ℕ → List ℕ
  ahead placed left = greedy_from at (length left) placed left

  pub ahead_next : (placed rest : List ℕ) (x i : ℕ) → In i (x ∷ rest) → first_or (joined at placed) x (x ∷ rest) ≡ i → ahead placed (x ∷ rest)
      ≡ i ∷ ahead (i ∷ placed) (without i (x ∷ rest))
  unfolding greedy_from
  ahead_next placed rest x i h e =
      let l : length rest ≡ length (without i (x ∷ rest)) = (let w = without_length i (x ∷ rest) h in omega arith) in
      ap (λ (k : ℕ). k ∷ greedy_from at (length rest) (k ∷ placed) (without k (x ∷ rest))) e
      ∙ ap (λ (m : ℕ). i ∷ greedy_from at m (i ∷ placed) (without i (x ∷ rest))) l

-- ---- the run
module _ (n faces : ℕ) (few : faces ≤ n) (corner : ℕ → ℕ) (fs : List Face) (many : length fs ≡ faces) (different : AllDifferent fs) where
  abbrev at : ℕ → Face
  at = face_at fs

  -- k faces are placed, `seeded` of them where none shared an edge
  pub record RunAt (placed left : List ℕ) (k seeded : ℕ) (w : List ℕ) : Type 0 where
    pub kept : PlacedKept n faces corner at placed w
    pub rising : Rising left
    pub counts : (g : ℕ) → count (eqb g) left + count (eqb g) placed ≡ bit (ltb g faces)
    pub long : length left + k ≡ faces
    pub tail : (j : ℕ) → get_or (greedy fs) (k + j) 0 ≡ get_or (ahead n faces few corner at placed left) j 0
    pub fit : all_fit at [] (greedy fs) ≡ all_fit at placed (ahead n faces few corner at placed left)
    pub loosed : seeded + loose at placed (ahead n faces few corner at placed left) ≡ loose at [] (greedy fs)
    pub order : (j : ℕ) → j < k → get_or w (placed_at n + j) 0 ≡ get_or (greedy fs) j 0

  pub record Run (k seeded : ℕ) (w : List ℕ) : Type 0 where
    pub placed : List ℕ
    pub left : List ℕ
    pub here : RunAt placed left k seeded w

  whole : greedy fs ≡ ahead n faces few corner at [] (up_from 0 faces)
  unfolding greedy
  whole =
      ap (λ (m : ℕ). greedy_from at m [] (up_from 0 m)) many
      ∙ ap (λ (m : ℕ). greedy_from at m [] (up_from 0 faces)) (sym (numbers_length faces 0))

  pub run_start : (w : List ℕ) → PlacedKept n faces corner at [] w → Run 0 0 w
  run_start w kept = record {
    placed = [];
    left = up_from 0 faces;
    here = record {
      kept = kept;
      rising = rising_up faces 0;
      counts = λ g. (let p = numbers_permute faces g in omega arith);
      long = (let l = numbers_length faces 0 in omega arith);
      tail = λ j. (let z : 0 + j ≡ j = omega arith in ap₂ (λ (l : List ℕ) (m : ℕ). get_or l m 0) whole z);
      fit = ap (all_fit at []) whole;
      loosed = (let e = ap (loose at []) whole in omega arith);
      order = λ j l. absurd (omega arith);
    };
  }

  pub record Picks (placed left w : List ℕ) : Type 0 where
    pub below : least_face faces (get_or w (tree_at n + 1) 0) < faces
    pub shared : ltb (get_or w (tree_at n + 1) 0) faces ≡ joined at placed (least_face faces (get_or w (tree_at n + 1) 0))
    pub is_left_lem : In (least_face faces (get_or w (tree_at n + 1) 0)) left
    pub first : ahead n faces few corner at placed left
        ≡ least_face faces (get_or w (tree_at n + 1) 0) ∷ ahead n faces few corner at (least_face faces (get_or w (tree_at n + 1) 0) ∷ placed)
        (without (least_face faces (get_or w (tree_at n + 1) 0)) left)

  pick_at : (placed left : List ℕ) (k seeded : ℕ) (w : List ℕ) → k < faces → RunAt placed left k seeded w → Picks placed left w
  pick_at placed [] k seeded w l r = absurd (let e = r.long in omega arith)
  pick_at placed (x ∷ rest) k seeded w l r =
      let p = next_face n faces few corner at placed (x ∷ rest) w r.kept r.rising r.counts x rest refl in
      record {
        below = p.below;
        shared = p.shared;
        is_left_lem = p.is_left_lem;
        first = ahead_next n faces few corner at placed rest x (least_face faces (get_or w (tree_at n + 1) 0)) p.is_left_lem p.first;
      }

  pub run_picks : (k seeded : ℕ) (w : List ℕ) → k < faces → (r : Run k seeded w) → Picks r.placed r.left w
  run_picks k seeded w l r = pick_at r.placed r.left k seeded w l r.here

  -- a step
  module _ (k seeded : ℕ) (w z : List ℕ) (l : k < faces) (r : Run k seeded w) where
    abbrev i : ℕ
    i = least_face faces (get_or w (tree_at n + 1) 0)

    picks : Picks r.placed r.left w
    picks = run_picks k seeded w l r

    abbrev later : List ℕ
    later = ahead n faces few corner at (i ∷ r.placed) (without i r.left)

    here_is : get_or (greedy fs) k 0 ≡ i
    here_is =
        (let e : k ≡ k + 0 = omega arith in ap (λ (m : ℕ). get_or (greedy fs) m 0) e)
        ∙ r.here.tail 0
        ∙ ap (λ (m : List ℕ). get_or m 0 0) picks.first

    fit_more : fits at r.placed i ≡ true → all_fit at r.placed (i ∷ later) ≡ all_fit at (i ∷ r.placed) later
    unfolding all_fit
    fit_more h = rw h

    fit_stop : fits at r.placed i ≡ false → all_fit at r.placed (i ∷ later) ≡ false
    unfolding all_fit
    fit_stop h = rw h

    pub run_step : (u : List ℕ) → u ≡ set z (placed_at n + k) i → placed_at n + k < length z
        → ((j : ℕ) → tree_end n ≤ j → get_or z j 0 ≡ get_or w j 0)
        → PlacedKept n faces corner at (i ∷ r.placed) z → fits at r.placed i ≡ true
        → (more : ℕ) → more ≡ bit (not (ltb (get_or w (tree_at n + 1) 0) faces)) → Run (k + 1) (seeded + more) u
    run_step u is room same kept fit more m = record {
      placed = i ∷ r.placed;
      left = without i r.left;
      here = record {
        kept = kept_same n faces few corner at (i ∷ r.placed) z u
            (λ j b. ap (λ (v : List ℕ). get_or v j 0) is ∙ get_or-set_other z (placed_at n + k) j i 0 (λ (q : j ≡ placed_at n + k). omega arith)) kept;
        rising = rising_without i r.left r.here.rising;
        counts = λ g. (let c = r.here.counts g in let e = without_count i r.left picks.is_left_lem g in omega arith);
        long = (let a = r.here.long in let b = without_length i r.left picks.is_left_lem in omega arith);
        tail = λ j.
            (let e : k + 1 + j ≡ k + suc j = omega arith in ap (λ (v : ℕ). get_or (greedy fs) v 0) e)
            ∙ r.here.tail (suc j)
            ∙ ap (λ (v : List ℕ). get_or v (suc j) 0) picks.first;
        fit = r.here.fit ∙ ap (all_fit at r.placed) picks.first ∙ fit_more fit;
        loosed =
            (let a = r.here.loosed in
            let b = ap (loose at r.placed) picks.first in
            let s : bit (not (ltb (get_or w (tree_at n + 1) 0) faces)) ≡ bit (not (joined at r.placed i)) = ap (λ (v : Bool). bit (not v)) picks.shared in
            omega arith);
        order = λ j b. ap (λ (v : List ℕ). get_or v (placed_at n + j) 0) is ∙ ⊎_elim
            (λ (t : eqb j k ≡ true).
            let e = eqb-true j k t in
            rw e (get_or-set_same z (placed_at n + k) i 0 room ∙ sym here_is))
            (λ (t : eqb j k ≡ false).
            let ne : j ≢ k = eqb-false j k t in
            get_or-set_other z (placed_at n + k) (placed_at n + j) i 0 (λ (q : placed_at n + j ≡ placed_at n + k). ne (omega arith))
            ∙ same (placed_at n + j) (omega arith)
            ∙ r.here.order j (omega arith))
            (either (eqb j k));
      };
    }

    -- the face does not fit
    pub run_unfit : fits at r.placed i ≡ false → order_accepted fs ≡ false
    unfolding order_accepted
    run_unfit h = ap (λ (v : Bool). not (crowded fs) && v) (r.here.fit ∙ ap (all_fit at r.placed) picks.first ∙ fit_stop h) ∙ and_false
        (not (crowded fs))

  lies_is : (e : Edge) → lies faces at e ≡ count (has e) fs
  lies_is e = sym (by_number (has e) fs ∙ ap (λ (m : ℕ). count (λ g. has e (at g)) (up_from 0 m)) many)

  -- or an edge lies in three faces
  pub run_crowd : (e : Edge) → 3 ≤ lies faces at e → order_accepted fs ≡ false
  unfolding order_accepted
  run_crowd e h =
      let c : crowded fs ≡ true = ⊎_elim
      (λ (t : crowded fs ≡ true). t)
      (λ (t : crowded fs ≡ false). absurd (let f = uncrowded_few fs different t e in let s = lies_is e in omega arith))
      (either (crowded fs)) in
      rw c

  -- all are placed
  module _ (k seeded : ℕ) (w : List ℕ) (l : faces ≤ k) (r : Run k seeded w) where
    none_left : (left : List ℕ) → length left + k ≡ faces → left ≡ []
    none_left [] h = refl
    none_left (x ∷ left) h = absurd (omega arith)

    empty : r.left ≡ []
    empty = none_left r.left r.here.long

    nothing : ahead n faces few corner at r.placed r.left ≡ []
    unfolding greedy_from
    nothing = ap (ahead n faces few corner at r.placed) empty

    all_placed : (g : ℕ) → count (eqb g) r.placed ≡ bit (ltb g faces)
    all_placed g = let c = r.here.counts g in let e : count (eqb g) r.left ≡ 0 = ap (count (eqb g)) empty in omega arith

    few_all : (e : Edge) → count (has e) fs ≤ 2
    few_all e = ⊎_elim
        (λ (t : is_placed at r.placed e ≡ true). let f = r.here.kept.few e t in let s = lies_is e in omega arith)
        (λ (t : is_placed at r.placed e ≡ false).
        let z = any_false (λ j. has e (at j)) r.placed t in
        let c = recount (λ j. has e (at j)) faces r.placed (up_from 0 faces) all_placed (numbers_permute faces) in
        let s = lies_is e in
        omega arith)
        (either (is_placed at r.placed e))

    fits_all : all_fit at [] (greedy fs) ≡ true
    unfolding all_fit
    fits_all = r.here.fit ∙ ap (all_fit at r.placed) nothing

    accepted_all : order_accepted fs ≡ true
    unfolding order_accepted
    accepted_all = rw (few_uncrowded fs different few_all, fits_all)

    pub run_end : OrderFound n fs (Some seeded) w
    unfolding seeds
    run_end =
        let a = r.here.loosed in
        let e : loose at r.placed (ahead n faces few corner at r.placed r.left) ≡ 0 = ap (loose at r.placed) nothing in
        let all : seeded ≡ seeds fs = omega arith in
        record { decided = rw accepted_all (ap Some all); order = λ _ j b. r.here.order j (omega arith) }

  pub refused : (w : List ℕ) → order_accepted fs ≡ false → OrderFound n fs None w
  refused w h = record { decided = rw h; order = λ t. absurd (true_not_false t h) }

-- ---- whatever the faces
abbrev pub Runs : ℕ → ℕ → List ℕ → ℕ → ℕ → List ℕ → Type 0
Runs n faces start k seeded w =
    (few : faces ≤ n) (corner : ℕ → ℕ) (fs : List Face) (many : length fs ≡ faces) (different : AllDifferent fs)
    → Faces faces corner (face_at fs) → PlacedKept n faces corner (face_at fs) [] start → Run n faces few corner fs many different k seeded w

pub runs_start : (n faces : ℕ) (w : List ℕ) → Runs n faces w 0 0 w
runs_start n faces w few corner fs many different held kept = run_start n faces few corner fs many different w kept

module _ (n faces : ℕ) (few : faces ≤ n) (start w : List ℕ) (k seeded : ℕ) (runs : Runs n faces start k seeded w) where
  -- the face that comes next is one
  pub runs_astray : (z : List ℕ) → k < faces → faces ≤ least_face faces (get_or w (tree_at n + 1) 0) → FindsOrder n faces None start z
  runs_astray z l h = record {
    finds = λ corner fs many different held kept.
        (let p = run_picks n faces few corner fs many different k seeded w l (runs few corner fs many different held kept) in
        let b = p.below in
        absurd (omega arith));
  }

  module _ (z : List ℕ) (l : k < faces) where
    abbrev next : ℕ
    next = least_face faces (get_or w (tree_at n + 1) 0)

    abbrev shared : Bool
    shared = ltb (get_or w (tree_at n + 1) 0) faces

    pub runs_refused : Places n faces next shared false w z → FindsOrder n faces None start z
    runs_refused p = record {
      finds = λ corner fs many different held kept.
          let r = runs few corner fs many different held kept in
          let q = run_picks n faces few corner fs many different k seeded w l r in
          let d = p.places corner (face_at fs) r.placed held r.here.kept q.shared in
          refused n faces few corner fs many different z (⊎_elim
          (λ (h : fits (face_at fs) r.placed next ≡ false). run_unfit n faces few corner fs many different k seeded w z l r h)
          (λ (h : (e : Edge) × (3 ≤ lies faces (face_at fs) e)). run_crowd n faces few corner fs many different h.0 h.1)
          (d.unfit refl));
    }

    pub runs_step : (u : List ℕ) (more : ℕ) → Places n faces next shared true w z → u ≡ set z (placed_at n + k) next → placed_at n + k < length z → more
        ≡ bit (not shared) → Runs n faces start (k + 1) (seeded + more) u
    runs_step u more p is room m few corner fs many different held kept =
        let r = runs few corner fs many different held kept in
        let q = run_picks n faces few corner fs many different k seeded w l r in
        let d = p.places corner (face_at fs) r.placed held r.here.kept q.shared in
        run_step n faces few corner fs many different k seeded w z l r u is room (λ j b. p.outside j (inr b)) (d.kept refl) (d.fit refl) more m

  pub runs_end : faces ≤ k → FindsOrder n faces (Some seeded) start w
  runs_end l = record {
    finds = λ corner fs many different held kept. run_end n faces few corner fs many different k seeded w l (runs few corner fs many different held kept);
  }

-- ---- for the loop
pub places_as : (n faces i j : ℕ) (shared r s : Bool) (w z : List ℕ) → i ≡ j → r ≡ s → Places n faces i shared r w z → Places n faces j shared s w z
places_as n faces i j shared r s w z e f p = subst (λ (q : Bool). Places n faces j shared q w z) f (subst (λ (q : ℕ). Places n faces q shared r w z) e p)

pub placed_bound : (n faces : ℕ) → faces ≤ n → (i : ℕ) (shared r : Bool) (w z : List ℕ) (k v : ℕ) → Places n faces i shared r w z → Bound n (3 * faces) w
    → Bound n (3 * faces) (set z (placed_at n + k) v)
placed_bound n faces few i shared r w z k v p h =
    bound_same n (3 * faces) (omega arith) w (set z (placed_at n + k) v)
    (λ j l. get_or-set_other z (placed_at n + k) j v 0 (λ (q : j ≡ placed_at n + k). omega arith) ∙ p.outside j (inl l))
    h
