-- Points no three of which make a seed: which of the gathered points are looked at, that this is enough, and that
-- nothing is then found. Assumes nothing.
use Prim.Native.Nat.{ℕ, suc, ◌+◌, ◌*◌, ◌≤◌, ◌<◌}
use mathlib.Core.Path.{◌≡◌, refl, sym, ap, ◌∙◌, subst}
use mathlib.Core.Logic.{◌⊎◌, inl, inr, ⊎_elim, ◌≢◌}
use mathlib.Core.Bool.{Bool, true, false, not, ◌&&◌, ◌||◌}
use mathlib.Core.List.{List, [], ◌∷◌}
use mathlib.Core.Option.{none}
use native.Mathlib.Nat.{min-le_left}
use native.Mathlib.Omega.{arith}
use lib.Dec.{eqb, ltb}
use lib.ListN.{length, take, drop, get_or, set, length-set, length-take}
use lib.Seq.{get_or-take, get_or-drop, get_or-set_same, get_or-set_other, take-set-le, drop-set-lt}
use lib.Ieee.{Float, lt}
use borrow.Author.Tests.{ltb-true, ltb-false, lt-ltb, eq-eqb, eqb-true}
use Rattle.points.specs.Points.{point_at}
use Rattle.spatial_hash.specs.declared.Hash.{Hash}
use Rattle.lists.specs.Lists.{bit, count, unused}
use Rattle.patch.specs.Search.{is_second, is_third}
use Rattle.lists.proofs.Bools.{either, not-true, true_not_false, and_both}
use Rattle.decisions.specs.declared.Scene.{Scene}
use Rattle.decisions.specs.Decisions.{reach, apart, is_close, floats_of}
use Rattle.decisions.specs.Inner.Completes.{completes}
use Rattle.filters.specs.declared.Limits.{Limits}
use Rattle.spatial_hash.specs.Inner.Near.{Hashed}
use Rattle.nearby.specs.Inner.Ready.{SceneHeld, NeighborsListed, SceneKept, used_in_scene, neighbors_listed, nth}
use Rattle.nearby.specs.Inner.Narrow.{in_reach}
use Rattle.sifting.specs.Inner.Sift.{is_within}
use Rattle.sifting.proofs.Parts.{drop_more, word_same}
use Rattle.nearby.proofs.Keeping.{kept_self, kept_on, held_kept, hashed_search}
use Rattle.nearby.proofs.Narrowing.{out_of_reach, in_reach_lem}
use Rattle.three_points.specs.Inner.Judged.{Seedless, LimitsAtRadius}
use Rattle.three_points.proofs.Refused.{apart_seedless, seedless_turned}
use Rattle.seedless.specs.Inner.Parts.{with_first}
use Rattle.seedless.specs.Inner.Seedless.{is_other, is_left, SeedlessFrom, SeedlessBetween, Stands, PointsLeft, ListReordered, AllLeftSeedless}
use Rattle.seedless_pairs.specs.declared.Range.{Range}
use Rattle.seedless_pairs.specs.Inner.Pairs.{PairsSeedless, Spans}
use Rattle.flatness.proofs.Below.{below_next}
use Rattle.seedless.proofs.Nothing.{first_around, completes_third, close_second}
use Rattle.regions.specs.Inner.Regions.{neighbors_at}

-- ---- the loop of `keep_left` at the m-th point

pub record Leaving (s : Scene) (lo i : ℕ) (w₀ w : List ℕ) (found kept m : ℕ) : Type 0 where
  pub same : length w ≡ length w₀
  pub most : kept ≤ m
  pub inside : m ≤ found
  pub below : (x : ℕ) → x < kept → get_or w (4 * s.n + x) 0 < s.n
  pub unread : drop (4 * s.n + m) w ≡ drop (4 * s.n + m) w₀
  pub complete : (x : ℕ) → x < m → is_left s lo i w₀ (get_or w₀ (4 * s.n + x) 0) ≡ true → Stands s w kept (get_or w₀ (4 * s.n + x) 0)
  pub others : SceneKept s w₀ w

module _ {s : Scene} {lo i : ℕ} {w₀ : List ℕ} {found : ℕ} where
  pub left_start : Leaving s lo i w₀ w₀ found 0 0
  left_start = record {
    same = refl;
    most = omega arith;
    inside = omega arith;
    below = λ x h. absurd (omega arith);
    unread = refl;
    complete = λ x h. absurd
        (omega arith);
    others = kept_self s w₀;
  }

  module _ (long : 24 * s.n + 64 ≤ length w₀) (points : NeighborsListed s w₀ found) {w : List ℕ} {kept m : ℕ} (k : Leaving s lo i w₀ w found kept m) where
    pub left_end : found ≤ m → PointsLeft s lo i w₀ w found kept
    left_end h = record {
      listed = record { most = omega (arith, k.most, k.inside, points.most); below = k.below };
      complete = λ j p t. subst (Stands s w kept) p.1.1 (k.complete p.0 (omega (arith, p.1.0)) (ap (is_left s lo i w₀) p.1.1 ∙ t));
      kept = k.others;
    }

    left_word : get_or w (4 * s.n + m) 0 ≡ get_or w₀ (4 * s.n + m) 0
    left_word = word_same w₀ w (4 * s.n + m) k.unread

    pub left_below : m < found → get_or w (4 * s.n + m) 0 < s.n
    left_below h = subst (λ (j : ℕ). j < s.n) (sym left_word) (points.below m h)

    test_is : {b : Bool} → b ≡ is_left s lo i w (get_or w (4 * s.n + m) 0) → is_left s lo i w₀ (get_or w₀ (4 * s.n + m) 0) ≡ b
    test_is e = sym (e ∙ ap (λ (l : List ℕ). is_other lo i (get_or w (4 * s.n + m) 0) && unused (take s.n l) (get_or w (4 * s.n + m) 0)) k.others.after ∙ ap
        (is_left s lo i w₀) left_word)

    pub left_skip : {b : Bool} → m < found → b ≡ is_left s lo i w (get_or w (4 * s.n + m) 0) → b ≡ false → Leaving s lo i w₀ w found kept (m + 1)
    left_skip h e t = record {
      same = k.same;
      most = omega (arith, k.most);
      inside = omega arith;
      below = k.below;
      unread = drop_more w₀ w (4 * s.n + m) (4 * s.n + (m + 1)) (omega arith) k.unread;
      complete = below_next k.complete (λ y. absurd (true_not_false y (test_is e ∙ t)));
      others = k.others;
    }

    -- the m-th point, written after those that are kept
    abbrev stored : List ℕ
    stored = set w (4 * s.n + kept) (get_or w (4 * s.n + m) 0)

    stored_new : m < found → get_or stored (4 * s.n + kept) 0 ≡ get_or w (4 * s.n + m) 0
    stored_new h = get_or-set_same w (4 * s.n + kept) (get_or w (4 * s.n + m) 0) 0 (omega (arith, long, points.most, k.same, k.most))

    stored_old : (x : ℕ) → x < kept → get_or stored (4 * s.n + x) 0 ≡ get_or w (4 * s.n + x) 0
    stored_old x h = get_or-set_other w (4 * s.n + kept) (4 * s.n + x) (get_or w (4 * s.n + m) 0) 0 (λ e. omega arith)

    pub left_take : m < found → Leaving s lo i w₀ stored found (kept + 1) (m + 1)
    left_take h = record {
      same = length-set w (4 * s.n + kept) (get_or w (4 * s.n + m) 0) ∙ k.same;
      most = omega (arith, k.most);
      inside = omega arith;
      below = below_next (λ x l. subst (λ (j : ℕ). j < s.n) (sym (stored_old x l)) (k.below x l))
          (subst (λ (j : ℕ). j < s.n) (sym (stored_new h)) (left_below h));
      unread = drop-set-lt (4 * s.n + (m + 1)) w (4 * s.n + kept) (get_or w (4 * s.n + m) 0) (omega (arith, k.most)) ∙ drop_more w₀ w (4 * s.n + m)
          (4 * s.n + (m + 1)) (omega arith) k.unread;
      complete = below_next
          (λ x l t. let p = k.complete x l t in (p.0, (omega (arith, p.1.0), stored_old p.0 p.1.0 ∙ p.1.1)))
          (λ t. (kept, (omega arith, stored_new h ∙ left_word)));
      others = kept_on k.others (record {
        before = take-set-le (4 * s.n) w (4 * s.n + kept) (get_or w (4 * s.n + m) 0) (omega arith);
        after = drop-set-lt (5 * s.n) w (4 * s.n + kept) (get_or w (4 * s.n + m) 0) (omega (arith, k.most, points.most));
      });
    }

-- ---- the points that were gathered are enough

-- what is in a list is its head or in the rest
pub in_either : {P : Type 0} {c : ℕ} (b : Bool) → (b ≡ true → P) → (1 ≤ c → P) → 1 ≤ bit b + c → P
in_either true f g h = f refl
in_either false f g h = g (omega arith)

-- what is in a list stands somewhere
place_of : (k : ℕ) (xs : List ℕ) → 1 ≤ count (eqb k) xs → (m : ℕ) × ((m < length xs) × (get_or xs m 0 ≡ k))
place_of k [] h = absurd (omega arith)
place_of k (x ∷ xs) h =
    in_either (eqb k x) (λ e. (0, (omega arith, sym (eqb-true k x e)))) (λ c. let r = place_of k xs c in (suc r.0, (omega (arith, r.1.0), r.1.1))) h

pub listed_place : (s : Scene) (w : List ℕ) (c k : ℕ) → 1 ≤ count (eqb k) (neighbors_listed s w c) → (m : ℕ) × ((m < c) × (nth s w m ≡ k))
listed_place s w c k h =
    let r = place_of k (neighbors_listed s w c) h in
    let z : r.0 < c = omega (arith, r.1.0, length-take c (drop (neighbors_at s.n) w), min-le_left c (length (drop (neighbors_at s.n) w))) in
    (r.0, (z, sym (get_or-take c (drop (neighbors_at s.n) w) r.0 0 z ∙ get_or-drop (neighbors_at s.n) w r.0 0) ∙ r.1.1))

-- of two numbers that differ one is less
apart_order : (a b : ℕ) → (a ≡ b → ⊥) → (a < b) ⊎ (b < a)
apart_order a b d = ⊎_elim
    (λ (t : ltb a b ≡ true). inl (ltb-true a b t))
    (λ (t : ltb a b ≡ false). ⊎_elim (λ (u : ltb b a ≡ true). inr (ltb-true b a u))
    (λ (u : ltb b a ≡ false). absurd (d (omega (arith, ltb-false a b t, ltb-false b a u)))) (either (ltb b a)))
    (either (ltb a b))

-- each two of those that are left were looked at, in another order
pub left_seedless : {s : Scene} {pts : List Float} {r : Float} {lo i : ℕ} {w u v : List ℕ} {found c : ℕ} {q : Range} → PointsLeft s lo i w u found c
    → ListReordered s u v c → Spans s pts v 0 c q → PairsSeedless s pts r v i q q → AllLeftSeedless s pts r lo i w found
left_seedless {s} {pts} {r} {lo} {i} {w} {u} {v} {found} {c} {q} x o span all j k pj pk hj hk ne =
    two (o.complete j (x.complete j pj hj)) (o.complete k (x.complete k pk hk))
  where
    word : ℕ → ℕ
    word m = nth s v m

    later : (a b : ℕ) → b < c → a < b → Seedless s pts r i (word a) (word b)
    later a b hb h = all a b (omega (arith, span.from_is)) (omega (arith, span.to_is)) (omega (arith, span.from_is)) (omega (arith, span.to_is)) h

    at : (a b : ℕ) → a < c → b < c → word a ≢ word b → Seedless s pts r i (word a) (word b)
    at a b ha hb d = ⊎_elim (λ (t : a < b). later a b hb t) (λ (t : b < a). seedless_turned (later b a ha t)) (apart_order a b (λ e. d (ap word e)))

    two : Stands s v c j → Stands s v c k → Seedless s pts r i j k
    two p q =
        subst (λ (z : ℕ). Seedless s pts r i z k) p.1.1
        (subst (Seedless s pts r i (word p.0)) q.1.1
        (at p.0 q.0 p.1.0 q.1.0 (λ e. ne (sym p.1.1 ∙ e ∙ q.1.1))))

-- and whoever was not gathered is too far away
pub seedless_from : {s : Scene} {pts : List Float} {r : Float} {l : Limits} (lo i : ℕ) {w u : List ℕ} (found : ℕ) → LimitsAtRadius s pts r l → SceneKept s w u
    → ((k : ℕ) → k < s.n → unused (used_in_scene s w) k ≡ true → is_within pts (point_at pts i) l.far k ≡ true → 1 ≤ count (eqb k) (neighbors_listed s u found))
    → AllLeftSeedless s pts r lo i u found → SeedlessFrom s pts r (used_in_scene s w) lo i
seedless_from {s} {pts} {r} {l} lo i {w} {u} found g kept near all j k hj hk oj ok ne uj uk = ⊎_elim
    (λ (tj : in_reach pts (used_in_scene s w) (point_at pts i) l.far j ≡ true). ⊎_elim
    (λ (tk : in_reach pts (used_in_scene s w) (point_at pts i) l.far k ≡ true). all j k (stands j hj uj tj) (stands k hk uk tk) (is_left_lem j oj uj)
    (is_left_lem k ok uk) ne)
    (λ (tk : in_reach pts (used_in_scene s w) (point_at pts i) l.far k ≡ false). seedless_turned (beyond k j uk tk))
    (either (in_reach pts (used_in_scene s w) (point_at pts i) l.far k)))
    (λ (tj : in_reach pts (used_in_scene s w) (point_at pts i) l.far j ≡ false). beyond j k uj tj)
    (either (in_reach pts (used_in_scene s w) (point_at pts i) l.far j))
  where
    beyond : (a b : ℕ) → unused (used_in_scene s w) a ≡ true → in_reach pts (used_in_scene s w) (point_at pts i) l.far a ≡ false → Seedless s pts r i a b
    beyond a b ua t = ⊎_elim
        (λ (f : unused (used_in_scene s w) a ≡ false). absurd (true_not_false ua f))
        (λ (f : lt (reach r) (apart pts a i) ≡ true). apart_seedless s pts r i a b f)
        (out_of_reach pts (used_in_scene s w) (reach r) i a l.far g.limits.fars t)

    is_left_lem : (a : ℕ) → is_other lo i a ≡ true → unused (used_in_scene s w) a ≡ true → is_left s lo i u a ≡ true
    is_left_lem a h t = rw h (ap (λ (z : List ℕ). unused (take s.n z) a) kept.after ∙ t)

    stands : (a : ℕ) → a < s.n → unused (used_in_scene s w) a ≡ true → in_reach pts (used_in_scene s w) (point_at pts i) l.far a ≡ true → Stands s u found a
    stands a ha ua t = listed_place s u found a (near a ha ua (in_reach_lem pts (used_in_scene s w) (point_at pts i) l.far a t))

-- ---- what is known of second and third points

not_equal : (a b : ℕ) → not (eqb a b) ≡ true → a ≡ b → ⊥
not_equal a b h e = true_not_false h (ap not (eq-eqb a b e))

second_free : (s : Scene) (pts : List Float) (r : Float) (used : List ℕ) (i j : ℕ) → is_second (floats_of s pts) r used i j ≡ true → (i ≡ j → ⊥)
    × (unused used j ≡ true)
unfolding is_second
second_free s pts r used i j h =
    let a = and_both {p = not (eqb i j)} h in
    (not_equal i j a.0, (and_both {p = unused used j} a.1).0)

third_free : (s : Scene) (pts : List Float) (r : Float) (used : List ℕ) (i j k : ℕ) → is_third (floats_of s pts) r used i j k ≡ true → (i ≡ k → ⊥)
    × ((j ≡ k → ⊥) × (unused used k ≡ true))
unfolding is_third
third_free s pts r used i j k h =
    let a = and_both {p = not (eqb i k)} h in
    let b = and_both {p = not (eqb j k)} a.1 in
    (not_equal i k a.0, (not_equal j k b.0, (and_both {p = unused used k} b.1).0))

-- ---- which points are others

or_either : (a b : Bool) → (a || b) ≡ true → (a ≡ true) ⊎ (b ≡ true)
or_either true b h = inl refl
or_either false b h = inr h

or_left : (a b : Bool) → a ≡ true → (a || b) ≡ true
or_left a b h = rw h

or_right : (a b : Bool) → b ≡ true → (a || b) ≡ true
or_right true b h = refl
or_right false b h = h

other_is : (lo i k : ℕ) → is_other lo i k ≡ true → (i < k) ⊎ (k < lo)
other_is lo i k h = ⊎_elim (λ (t : ltb i k ≡ true). inl (ltb-true i k t)) (λ (t : ltb k lo ≡ true). inr (ltb-true k lo t)) (or_either (ltb i k) (ltb k lo) h)

other_above : (lo i k : ℕ) → i < k → is_other lo i k ≡ true
other_above lo i k h = or_left (ltb i k) (ltb k lo) (lt-ltb i k h)

other_below : (lo i k : ℕ) → k < lo → is_other lo i k ≡ true
other_below lo i k h = or_right (ltb i k) (ltb k lo) (lt-ltb k lo h)

-- another than i is one than any before i
other_before : (lo i a k : ℕ) → a ≤ i → is_other lo i k ≡ true → is_other lo a k ≡ true
other_before lo i a k h o = ⊎_elim (λ (t : i < k). other_above lo a k (omega arith)) (λ (t : k < lo). other_below lo a k t) (other_is lo i k o)

-- a point that differs from i is another, or from lo on and before i
other_or : (lo i k : ℕ) → (i ≡ k → ⊥) → (is_other lo i k ≡ true) ⊎ ((lo ≤ k) × (k < i))
other_or lo i k d = ⊎_elim
    (λ (t : is_other lo i k ≡ true). inl t)
    (λ (t : is_other lo i k ≡ false). inr (
      ⊎_elim (λ (u : ltb k lo ≡ true). absurd (true_not_false (other_below lo i k (ltb-true k lo u)) t)) (λ (u : ltb k lo ≡ false). ltb-false k lo u)
          (either (ltb k lo)),
      ⊎_elim (λ (u : i < k). absurd (true_not_false (other_above lo i k u) t)) (λ (u : k < i). u) (apart_order i k d),
    ))
    (either (is_other lo i k))

-- ---- what is known while no three points that were met make a seed

module _ {s : Scene} {pts : List Float} {r : Float} {lo i : ℕ} where
  pub seedless_used : (used : List ℕ) → SeedlessBetween s pts r used lo i → unused used i ≡ false → SeedlessBetween s pts r used lo (i + 1)
  seedless_used used b h = below_next b (λ _ u. absurd (true_not_false u h))

  pub seedless_next : {w₀ w : List ℕ} → SeedlessBetween s pts r (used_in_scene s w₀) lo i → SceneKept s w₀ w → SeedlessFrom s pts r (used_in_scene s w) lo i
      → SeedlessBetween s pts r (used_in_scene s w₀) lo (i + 1)
  seedless_next b k f = below_next b (λ _ u. subst (λ (l : List ℕ). SeedlessFrom s pts r (take s.n l) lo i) k.after f)

  -- of point i and two others the least from lo on has been met
  pub seedless_nothing : (used : List ℕ) → unused used i ≡ true → i < s.n → lo ≤ i → SeedlessBetween s pts r used lo (i + 1)
      → with_first (floats_of s pts) r used i ≡ none
  seedless_nothing used ui hi hl b = first_around s pts r used i (λ j hj second k hk. not-true (λ third.
      let p = second_free s pts r used i j second in
      let q = third_free s pts r used i j k third in
      let close = close_second s pts r used i j second in
      true_not_false third (completes_third s pts r used i j k (least j k hj hk p.0 q.0 q.1.0 p.1 q.1.1 close))))
    where
      -- point a is the least from lo on, the other two are others than it
      by_second : (a c d : ℕ) → a < s.n → c < s.n → d < s.n → lo ≤ a → a < i + 1 → unused used a ≡ true → unused used c ≡ true → unused used d ≡ true
          → is_other lo a c ≡ true → is_other lo a d ≡ true → (c ≡ d → ⊥) → Seedless s pts r a c d
      by_second a c d ha hc hd la ia ua uc ud oc od ne = b a ia la ua c d hc hd oc od ne uc ud

      least : (j k : ℕ) → j < s.n → k < s.n → (i ≡ j → ⊥) → (i ≡ k → ⊥) → (j ≡ k → ⊥) → unused used j ≡ true → unused used k ≡ true → is_close pts r i j ≡ true
          → completes s pts r i j k ≡ false
      least j k hj hk ij ik jk uj uk close = ⊎_elim
          (λ (oj : is_other lo i j ≡ true). ⊎_elim
          (λ (ok : is_other lo i k ≡ true). (by_second i j k hi hj hk hl (omega arith) ui uj uk oj ok jk).first.forward close)
          (λ (nk : (lo ≤ k) × (k < i)). (by_second k i j hk hi hj nk.0 (omega (arith, nk.1)) uk ui uj (other_above lo k i nk.1)
          (other_before lo i k j (omega (arith, nk.1)) oj) ij).second.backward close)
          (other_or lo i k ik))
          (λ (nj : (lo ≤ j) × (j < i)). ⊎_elim
          (λ (ok : is_other lo j k ≡ true). (by_second j i k hj hi hk nj.0 (omega (arith, nj.1)) uj ui uk
          (other_above lo j i nj.1) ok ik).second.forward close)
          (λ (nk : (lo ≤ k) × (k < j)). (by_second k i j hk hi hj nk.0 (omega (arith, nk.1, nj.1)) uk ui uj
          (other_above lo k i (omega (arith, nk.1, nj.1))) (other_above lo k j nk.1) ij).second.backward close)
          (other_or lo j k jk))
          (other_or lo i j ij)

-- a search changes nothing in what is used
pub unused_kept : {s : Scene} {w v : List ℕ} {t : Bool} (i : ℕ) → SceneKept s w v → unused (used_in_scene s w) i ≡ t → unused (used_in_scene s v) i ≡ t
unused_kept {s} i k h = ap (λ (l : List ℕ). unused (take s.n l) i) k.after ∙ h

-- ---- the loop of `is_exhausted`: the points below i make no seed with any others

pub record Exhausting (s : Scene) (pts : List Float) (r : Float) (hash : Hash) (w₀ w : List ℕ) (i : ℕ) : Type 0 where
  pub held : SceneHeld s pts w
  pub hashed : Hashed hash pts s.n w
  pub kept : SceneKept s w₀ w
  pub same : length w ≡ length w₀
  pub inside : i ≤ s.n
  pub known : SeedlessBetween s pts r (used_in_scene s w₀) 0 i

module _ {s : Scene} {pts : List Float} {r : Float} {hash : Hash} {w₀ : List ℕ} where
  pub exhaust_start : SceneHeld s pts w₀ → Hashed hash pts s.n w₀ → Exhausting s pts r hash w₀ w₀ 0
  exhaust_start h d = record { held = h; hashed = d; kept = kept_self s w₀; same = refl; inside = omega arith; known = λ x l. absurd (omega arith) }

  pub exhaust_step : {w : List ℕ} {i : ℕ} (v : List ℕ) → Exhausting s pts r hash w₀ w i → i < s.n → SceneKept s w v → length v ≡ length w
      → (unused (used_in_scene s w) i ≡ true → SeedlessFrom s pts r (used_in_scene s w) 0 i)
      → Exhausting s pts r hash w₀ v (i + 1)
  exhaust_step {w} {i} v k h kv l f = record {
    held = held_kept v k.held l;
    hashed = hashed_search {s = s} v k.hashed l kv;
    kept = kept_on k.kept kv;
    same = l ∙ k.same;
    inside = omega arith;
    known = below_next k.known
        (λ _ u. subst (λ (z : List ℕ). SeedlessFrom s pts r (take s.n z) 0 i) k.kept.after (f (unused_kept {s = s} i k.kept u)));
  }
