-- A scan finds the same in any order: the nearest is settled by what it is. Assumes nothing.
use mathlib.Core.Path.{◌≡◌, refl, sym, ap, ◌∙◌, subst, subst⁻¹}
use mathlib.Core.Bool.{Bool, true, false, cond, not}
use mathlib.Core.Logic.{◌⊎◌, inl, inr, ⊎_elim}
use mathlib.Core.List.{List, [], ◌∷◌}
use Prim.Native.Nat.{ℕ, ◌≤◌, ◌<◌}
use native.Mathlib.Omega.{arith}
use borrow.Author.Tests.{ltb-true, ltb-false}
use lib.Dec.{T, ltb}
use lib.Ieee.{Float, binary32, lt, le, is_nan}
use Rattle.numbers.proofs.OrderLaws.{lt_le, le_refl, le_trans, le_not_lt, not_lt_le, unsigned_number_lem, le_antisymmetric}
use Rattle.lists.specs.Members.{In}
use Rattle.lists.proofs.Members.{in_head, in_cases}
use Rattle.nearest.specs.Scan.{Near}
use Rattle.nearest.specs.Parts.{closer, scanned, Length}

abbrev number : {d : Float} → Length d → T (not (is_nan d))
number {d} l = unsigned_number_lem d l.sign

-- r is not after z: not farther, and no higher number where it is no nearer
pub record NotAfter (r z : Near) : Type 0 where
  pub near : T (le r.distance z.distance)
  pub low : T (le z.distance r.distance) → r.number ≤ z.number

abbrev at : Float → ℕ → Near
at d n = record { distance = d; number = n }

pub itself : (z : Near) → Length z.distance → NotAfter z z
itself z l = record { near = le_refl z.distance (number l); low = λ _. omega arith }

pub strictly : (r z : Near) → T (lt r.distance z.distance) → NotAfter r z
strictly r z h = record { near = lt_le _ _ h; low = λ k. absurd (le_not_lt _ _ k h) }

chain : (r c z : Near) → NotAfter r c → NotAfter c z → NotAfter r z
chain r c z a b = record {
  near = le_trans _ _ _ a.near b.near;
  low = λ h. let x : r.number ≤ c.number = a.low (le_trans _ _ _ b.near h) in let y : c.number ≤ z.number = b.low
      (le_trans _ _ _ h a.near) in omega arith;
}

same : (r z : Near) → Length r.distance → Length z.distance → NotAfter r z → NotAfter z r → r ≡ z
same r z l k a b =
    let d : r.distance ≡ z.distance = le_antisymmetric binary32 _ _ l.is_f32 k.is_f32 l.sign k.sign a.near b.near in
    let x : r.number ≤ z.number = a.low b.near in
    let y : z.number ≤ r.number = b.low a.near in
    let n : r.number ≡ z.number = omega arith in
    λ i. at (d i) (n i)

-- one step: the closer of the two is one of them, and after neither
record Step (best z c : Near) : Type 0 where
  one_of : (c ≡ best) ⊎ (c ≡ z)
  first : NotAfter c best
  second : NotAfter c z

true_T : (b : Bool) → b ≡ true → T b
true_T b e = subst⁻¹ T e tt

not_T : (b : Bool) → b ≡ false → T (not b)
not_T true e = absurd (let z : ◌≡◌ {A = ℕ} 0 1 = cc in omega arith)
not_T false e = tt

module _ (best : Near) (d : Float) (n : ℕ) (lb : Length best.distance) (ld : Length d) where
  cases : (x y z : Bool) → lt d best.distance ≡ x → lt best.distance d ≡ y → ltb n best.number ≡ z
      → Step best (at d n) (cond x (at d n) (cond y best (cond z (at d n) best)))
  cases true y z e f g = record {
    one_of = inr refl;
    first = strictly (at d n) best (true_T _ e);
    second = itself (at d n) ld;
  }
  cases false true z e f g = record {
    one_of = inl refl;
    first = itself best lb;
    second = strictly best (at d n) (true_T _ f);
  }
  cases false false true e f g = record {
    one_of = inr refl;
    first = record { near = not_lt_le _ _ (number lb) (number ld) (not_T _ f); low = λ _. let h : n < best.number = ltb-true _ _ g in omega arith };
    second = itself (at d n) ld;
  }
  cases false false false e f g = record {
    one_of = inl refl;
    first = itself best lb;
    second = record { near = not_lt_le _ _ (number ld) (number lb) (not_T _ e); low = λ _. ltb-false _ _ g };
  }

  step : Step best (at d n) (closer best d n)
  unfolding closer
  step = cases (lt d best.distance) (lt best.distance d) (ltb n best.number) refl refl refl

-- what a scan finds: the best so far or one of the list, and after none of them
pub record Found (key : ℕ → Float) (xs : List ℕ) (best r : Near) : Type 0 where
  pub size : Length r.distance
  pub among : (r ≡ best) ⊎ (In r.number xs × (r ≡ at (key r.number) r.number))
  pub before : NotAfter r best
  pub least : (v : ℕ) → In v xs → NotAfter r (at (key v) v)

first_in : (key : ℕ → Float) (x : ℕ) (xs : List ℕ) (r : Near) → r ≡ at (key x) x → In r.number (x ∷ xs) × (r ≡ at (key r.number) r.number)
first_in key x xs r e =
    let n : x ≡ r.number = sym (ap (λ (z : Near). z.number) e) in
    (subst (λ (k : ℕ). In k (x ∷ xs)) n (in_head x xs), e ∙ ap (λ (w : ℕ). at (key w) w) n)

-- the one found in a list is not after the one found in another whose elements are all in it
after : (key : ℕ → Float) (xs ys : List ℕ) (best r t : Near) → Found key xs best r → Found key ys best t → ((v : ℕ) → In v ys → In v xs) → NotAfter r t
after key xs ys best r t a b from =
    ⊎_elim (λ e. subst⁻¹ (λ (z : Near). NotAfter r z) e a.before)
    (λ g. subst⁻¹ (λ (z : Near). NotAfter r z) g.1 (a.least t.number (from t.number g.0))) b.among

later : (x : ℕ) (xs : List ℕ) (v : ℕ) → In v xs → In v (x ∷ xs)
later x xs v i = omega (arith, i)

pub found : (key : ℕ → Float) (xs : List ℕ) → ((v : ℕ) → In v xs → Length (key v)) → (best : Near) → Length best.distance
    → Found key xs best (scanned key xs best)
unfolding scanned
found key [] good best l = record { size = l; among = inl refl; before = itself best l; least = λ v i. absurd (omega (arith, i)) }
found key (x ∷ xs) good best l =
    let c = closer best (key x) x in
    let lx = good x (in_head x xs) in
    let s = step best (key x) x l lx in
    let lc : Length c.distance = ⊎_elim (λ e. subst⁻¹ (λ (z : Near). Length z.distance) e l) (λ e. subst⁻¹ (λ (z : Near). Length z.distance) e lx)
    s.one_of in
    let f = found key xs (λ v i. good v (later x xs v i)) c lc in
    let r = scanned key xs c in
    record {
      size = f.size;
      among = ⊎_elim (λ e. ⊎_elim (λ g. inl (e ∙ g)) (λ g. inr (first_in key x xs r (e ∙ g))) s.one_of) (λ g. inr (later x xs r.number g.0, g.1))
          f.among;
      before = chain r c best f.before s.first;
      least = in_cases (λ (v : ℕ). NotAfter r (at (key v) v)) x xs (chain r c (at (key x) x) f.before s.second) f.least;
    }

-- there is one such
pub only_found : (key : ℕ → Float) (xs : List ℕ) (best r t : Near) → Found key xs best r → Found key xs best t → r ≡ t
only_found key xs best r t a b = same r t a.size b.size (after key xs xs best r t a b (λ v i. i)) (after key xs xs best t r b a (λ v i. i))

-- lists with the same elements give the same
pub any_order : (key : ℕ → Float) (xs ys : List ℕ) → ((v : ℕ) → In v xs → Length (key v)) → (best : Near) → Length best.distance
    → ((v : ℕ) → In v xs → In v ys) → ((v : ℕ) → In v ys → In v xs)
    → scanned key xs best ≡ scanned key ys best
any_order key xs ys good best l to from =
    let a = found key xs good best l in
    let b = found key ys (λ v i. good v (from v i)) best l in
    let r = scanned key xs best in
    let t = scanned key ys best in
    same r t a.size b.size (after key xs ys best r t a b from) (after key ys xs best t r b a to)
