-- Of the points found near a place: those within bounds that cover the limit, but for those above it (`sifted_near`),
-- so that each that is not above it is among them (`surrounds_near`), and a test that only such points pass is passed
-- as often by those found as by all (`surrounds_count`). Assumes nothing.
use mathlib.Core.Path.{◌≡◌, refl, sym, ap, subst, ◌∙◌}
use mathlib.Core.Logic.{⊎_elim}
use mathlib.Core.Bool.{Bool, true, false, not}
use mathlib.Core.List.{List, [], ◌∷◌}
use Prim.Native.Nat.{ℕ, zero, suc, ◌+◌, ◌*◌, ◌≤◌, ◌<◌}
use native.Mathlib.Omega.{arith}
use borrow.Author.Tests.{eq-eqb, eqb-true, eqb-false, ltb-true, ltb-false}
use lib.Dec.{T, eqb, ltb}
use lib.ListN.{take, drop}
use lib.Ieee.{Float, lt, le}
use lib.Ieee.Bits.{is_true}
use Rattle.numbers.proofs.OrderLaws.{le_not_lt}
use Rattle.vector.specs.declared.Point3f.{Point3f}
use Rattle.vector.specs.Vector.{squared}
use Rattle.vector.specs.Inner.Numbers.{Finite}
use Rattle.points.specs.Points.{point_at}
use Rattle.lists.specs.Lists.{up_from, count, bit}
use Rattle.lists.specs.Members.{Below}
use Rattle.lists.proofs.Bools.{either, not-true, true_not_false}
use Rattle.bounds.specs.declared.Bounds.{Bounds}
use Rattle.bounds.specs.Inner.Within.{within, Covers}
use Rattle.sifting.specs.Inner.Sift.{is_within, Sifted}
use Rattle.lists.proofs.Members.{only_count, only_fewer, only_at_most}
use Rattle.spatial_hash.specs.Inner.Buckets.{links_of, is_out}
use Rattle.spatial_hash.specs.Inner.Near.{none_out, Gathered, Surrounds, NearPlace, HashedAll}
use Rattle.spatial_hash.specs.declared.Hash.{Hash}
use Rattle.bucket_order.proofs.Chains.{without}

-- ---- lists with the same members
no_count : {k : ℕ} → (1 ≤ k → ⊥) → k ≡ 0
no_count {k = zero} h = refl
no_count {k = suc k} h = absurd (h (omega arith))

apart : (test : ℕ → Bool) (y x : ℕ) → test y ≡ true → test x ≡ false → eqb y x ≡ false
apart test y x t e = go (eqb y x) refl
  where
    go : (b : Bool) → eqb y x ≡ b → b ≡ false
    go true q = sym t ∙ ap test (eqb-true y x q) ∙ e
    go false q = refl

module _ (test : ℕ → Bool) where
  without_count : (x : ℕ) (ys : List ℕ) → 1 ≤ count (eqb x) ys → count test ys ≡ bit (test x) + count test (without x ys)
  unfolding without
  without_count x [] h = absurd (omega arith)
  without_count x (y ∷ ys) h = go (eqb x y) refl (without_count x ys)
    where
      go : (b : Bool) → eqb x y ≡ b → (1 ≤ count (eqb x) ys → count test ys ≡ bit (test x) + count test (without x ys)) → count test (y ∷ ys) ≡ bit (test x)
          + count test (elim b [ true ↦ ys | false ↦ y ∷ without x ys ])
      go true e r = ap (λ (z : ℕ). bit (test z) + count test ys) (sym (eqb-true x y e))
      go false e r =
          let z : bit (eqb x y) ≡ 0 = ap bit e in
          let i = r (omega arith) in omega arith

module _ (test : ℕ → Bool) where
  none_counted : (ys : List ℕ) → ((y : ℕ) → test y ≡ true → count (eqb y) ys ≡ 0) → count test ys ≡ 0
  none_counted [] h = refl
  none_counted (y ∷ ys) h = go (test y) refl (none_counted ys (λ (z : ℕ) (t : test z ≡ true). let c = h z t in omega arith))
    where
      go : (b : Bool) → test y ≡ b → count test ys ≡ 0 → count test (y ∷ ys) ≡ 0
      go true e r = let c = h y e in let o : bit (eqb y y) ≡ 1 = ap bit (eq-eqb y y refl) in absurd (omega arith)
      go false e r = let z : bit (test y) ≡ 0 = ap bit e in omega arith

  -- lists that have each number that passes equally often
  pub count_same : (xs ys : List ℕ) → ((x : ℕ) → test x ≡ true → count (eqb x) xs ≡ count (eqb x) ys) → count test xs ≡ count test ys
  count_same [] ys h = sym (none_counted ys (λ (y : ℕ) (t : test y ≡ true). sym (h y t)))
  count_same (x ∷ xs) ys h = go (test x) refl (count_same xs ys) (count_same xs (without x ys))
    where
      go : (b : Bool) → test x ≡ b → (((z : ℕ) → test z ≡ true → count (eqb z) xs ≡ count (eqb z) ys) → count test xs ≡ count test ys)
          → (((z : ℕ) → test z ≡ true → count (eqb z) xs ≡ count (eqb z) (without x ys)) → count test xs ≡ count test (without x ys)) → count test (x ∷ xs)
          ≡ count test ys
      go true e r s =
          let o : bit (eqb x x) ≡ 1 = ap bit (eq-eqb x x refl) in
          let some : 1 ≤ count (eqb x) ys = omega (arith, h x e) in
          let rest = s (λ (z : ℕ) (t : test z ≡ true). omega (arith, h z t, without_count (eqb z) x ys some)) in
          omega (arith, without_count test x ys some)
      go false e r s =
          let z : bit (test x) ≡ 0 = ap bit e in
          let rest = r (λ (y : ℕ) (t : test y ≡ true). let d : bit (eqb y x) ≡ 0 = ap bit (apart test y x t e) in omega (arith, h y t)) in
          omega arith

-- ---- what was found
module _ {pts : List Float} {n : ℕ} where
  -- of the points within bounds that cover the limit those that are not above it are left
  pub sifted_near : {p : Point3f} {t : Float} {b : Bounds} {w u v : List ℕ} {found r : ℕ} → ((j : ℕ) → j < n → Finite (point_at pts j)) → Covers p t b
      → Gathered pts n b w u found → Sifted pts n p t u v found r → NearPlace pts n p t w v r
  sifted_near {p} {t} {b} {w} {u} {v} {found} {r} numbers covers g s = record {
    most = omega (arith, s.most, g.most);
    surrounds = subst (Surrounds pts n (is_out n (links_of n w)) p t) (sym s.same) record {
      below = λ j c. g.gathers.below j (only_fewer (is_within pts p t) j (listed u) c);
      once = λ j. let few = g.gathers.once j in omega (arith, only_at_most (is_within pts p t) j (listed u));
      complete = λ j h out i. let e = only_count (is_within pts p t) j i (listed u) in omega (arith, g.gathers.complete j h out (inside j h i));
    };
    before = s.before ∙ g.before;
    after = s.after ∙ g.after;
  }
    where
      listed : List ℕ → List ℕ
      listed u = take found (drop (4 * n) u)

      inside : (j : ℕ) → j < n → is_within pts p t j ≡ true → within b (point_at pts j) ≡ true
      inside j h i = ⊎_elim
          (λ (o : within b (point_at pts j) ≡ true). o)
          (λ (o : within b (point_at pts j) ≡ false). absurd
          (true_not_false i (ap not (is_true (lt t (squared (point_at pts j) p)) (covers (point_at pts j) (numbers j h) o)))))
          (either (within b (point_at pts j)))

  pub near_all : {h : Hash} {p : Point3f} {t : Float} {w u : List ℕ} {r : ℕ} → HashedAll h pts n w → NearPlace pts n p t w u r
      → Surrounds pts n none_out p t (take r (drop (4 * n) u))
  near_all s g = record { below = g.surrounds.below; once = g.surrounds.once; complete = λ j h _ i. g.surrounds.complete j h (s.all_in j h) i }

  pub surrounds_near : {p : Point3f} {t : Float} {js : List ℕ} → Surrounds pts n none_out p t js → (j : ℕ) → j < n → T (le (squared (point_at pts j) p) t)
      → 1 ≤ count (eqb j) js
  surrounds_near {p} {t} g j h l = g.complete j h refl
      (ap not (not-true (λ (e : lt t (squared (point_at pts j) p) ≡ true). le_not_lt (squared (point_at pts j) p) t l (subst T (sym e) tt))))

-- ---- the numbers from i on, m of them
pub up_in : (j i m : ℕ) → 1 ≤ count (eqb j) (up_from i m) → (i ≤ j) × (j < i + m)
unfolding up_from
up_in j i zero h = absurd (omega arith)
up_in j i (suc m) h = go (eqb j i) refl (up_in j (i + 1) m)
  where
    go : (b : Bool) → eqb j i ≡ b → (1 ≤ count (eqb j) (up_from (i + 1) m) → (i + 1 ≤ j) × (j < i + 1 + m)) → (i ≤ j) × (j < i + suc m)
    go true e r = let s = eqb-true j i e in (omega arith, omega arith)
    go false e r =
        let z : bit (eqb j i) ≡ 0 = ap bit e in
        let k = r (omega arith) in (omega arith, omega arith)

pub up_has : (j i m : ℕ) → i ≤ j → j < i + m → 1 ≤ count (eqb j) (up_from i m)
unfolding up_from
up_has j i zero h k = absurd (omega arith)
up_has j i (suc m) h k = go (eqb j i) refl (up_has j (i + 1) m)
  where
    go : (b : Bool) → eqb j i ≡ b → (i + 1 ≤ j → j < i + 1 + m → 1 ≤ count (eqb j) (up_from (i + 1) m)) → 1 ≤ count (eqb j) (up_from i (suc m))
    go true e r = rw e (omega arith)
    go false e r =
        let d = eqb-false j i e in
        let l = r (omega arith) (omega arith) in
        omega arith

up_once : (j i m : ℕ) → count (eqb j) (up_from i m) ≤ 1
unfolding up_from
up_once j i zero = omega arith
up_once j i (suc m) = go (eqb j i) refl (up_once j (i + 1) m)
  where
    go : (b : Bool) → eqb j i ≡ b → count (eqb j) (up_from (i + 1) m) ≤ 1 → count (eqb j) (up_from i (suc m)) ≤ 1
    go true e r =
        let z : bit (eqb j i) ≡ 1 = ap bit e in
        let s = eqb-true j i e in
        let none : count (eqb j) (up_from (i + 1) m) ≡ 0 = no_count (λ h. let k = up_in j (i + 1) m h in omega arith) in
        omega arith
    go false e r = let z : bit (eqb j i) ≡ 0 = ap bit e in omega arith

-- ---- every point, each once
pub up_whole : (n j : ℕ) → count (eqb j) (up_from 0 n) ≡ bit (ltb j n)
up_whole n j = go (ltb j n) refl
  where
    go : (b : Bool) → ltb j n ≡ b → count (eqb j) (up_from 0 n) ≡ bit b
    go true e =
        let l = ltb-true j n e in
        let h = up_has j 0 n (omega arith) (omega arith) in
        let o = up_once j 0 n in omega arith
    go false e = let l = ltb-false j n e in no_count (λ h. let k = up_in j 0 n h in omega arith)

-- a test is passed as often by some points as by all, if each that passes is among them
pub listed_count : {n : ℕ} (js all : List ℕ) → Below n js → ((j : ℕ) → count (eqb j) js ≤ 1) → ((j : ℕ) → count (eqb j) all ≡ bit (ltb j n))
    → (test : ℕ → Bool) → ((j : ℕ) → j < n → test j ≡ true → 1 ≤ count (eqb j) js) → count test js ≡ count test all
listed_count {n = n} js all below once whole test has = count_same test js all (λ (j : ℕ) (h : test j ≡ true). go j h (ltb j n) refl)
  where
    go : (j : ℕ) → test j ≡ true → (x : Bool) → ltb j n ≡ x → count (eqb j) js ≡ count (eqb j) all
    go j h true e =
        let m = has j (ltb-true j n e) h in
        let z : bit (ltb j n) ≡ 1 = ap bit e in
        omega (arith, once j, whole j)
    go j h false e =
        let l = ltb-false j n e in
        let z : bit (ltb j n) ≡ 0 = ap bit e in
        let none : count (eqb j) js ≡ 0 = no_count (λ k. let m = below j k in omega arith) in
        omega (arith, whole j)

-- a test that only points pass whose squared distance is not above the limit is passed as often by those found as by
-- all
pub surrounds_count : {pts : List Float} {n : ℕ} {p : Point3f} {t : Float} (js all : List ℕ) → Surrounds pts n none_out p t js
    → ((j : ℕ) → count (eqb j) all ≡ bit (ltb j n))
    → (test : ℕ → Bool) → ((j : ℕ) → j < n → test j ≡ true → T (le (squared (point_at pts j) p) t)) → count test js ≡ count test all
surrounds_count js all g whole test near = listed_count js all g.below g.once whole test (λ j l h. surrounds_near g j l (near j l h))
