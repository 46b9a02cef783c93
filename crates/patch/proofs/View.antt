-- Entries kept as numbers, their pop, and faces written to a slice. Assumes nothing.
use Prim.Native.Nat.{ℕ, zero, suc, ◌+◌, ◌-◌, ◌*◌, ◌/◌, ◌%◌, ◌≤◌, ◌<◌}
use mathlib.Core.Path.{◌≡◌, refl, sym, ap, ap₂, ◌∙◌}
use mathlib.Core.Bool.{Bool, true, false, cond}
use mathlib.Core.List.{List, [], ◌∷◌, ◌++◌, map}
use mathlib.Core.Logic.{⊎_elim}
use native.Mathlib.Omega.{arith}
use lib.Dec.{eqb, ltb}
use borrow.Author.Tests.{eqb-false, ltb-true}
use lib.ListN.{length, get_or, set, take, drop, length-map, length-append, length-drop, get_or-map}
use lib.Seq.{take_all, take-append-le, take_at, drop-append-add, drop-drop, sets, sets-eq}
use Rattle.patch.specs.Lay.{edge, Face}
use Rattle.patch.specs.Frontier.{sift, after_pop}
use Rattle.patch.specs.Inner.Entries.{encode, decode}
use Rattle.patch.specs.View.{flat, written}
use Rattle.lists.proofs.Bools.{either}

pub decode_encode : (a b : ℕ) → b < 4096 → decode (encode (edge a b)) ≡ edge a b
decode_encode a b h =
    let q : (a * 4096 + b) / 4096 ≡ a = omega arith in
    let r : (a * 4096 + b) % 4096 ≡ b = omega arith in
    ap₂ (λ (x y : ℕ). edge x y) q r

-- ---- the pop
module _ {A B : Type 0} (f : A → B) where
  map_set : (xs : List A) (i : ℕ) (v : A) → map f (set xs i v) ≡ set (map f xs) i (f v)
  map_set [] i v = refl
  map_set (x ∷ xs) zero v = refl
  map_set (x ∷ xs) (suc i) v = ap (λ (l : List B). f x ∷ l) (map_set xs i v)

  map_take : (m : ℕ) (xs : List A) → map f (take m xs) ≡ take m (map f xs)
  map_take zero xs = refl
  map_take (suc m) [] = refl
  map_take (suc m) (x ∷ xs) = ap (λ (l : List B). f x ∷ l) (map_take m xs)

  map_cond : (b : Bool) (xs ys : List A) → map f (cond b xs ys) ≡ cond b (map f xs) (map f ys)
  map_cond true xs ys = refl
  map_cond false xs ys = refl

  map_sift : (d : A) (fuel : ℕ) (xs : List A) (q : ℕ) (v : A) → map f (sift d fuel xs q v) ≡ sift (f d) fuel (map f xs) q (f v)
  unfolding sift
  map_sift d zero xs q v = map_set xs q v
  map_sift d (suc fuel) xs q v =
      let ih = map_sift d fuel (set xs q (get_or xs (q + q + 2) d)) (q + q + 2) v in
      simp (map_cond, ih, length-map xs f, get_or-map f xs (q + q + 2) d, get_or-map f xs (q + q + 1) d, map_set)

  after_pop_map : (d : A) (xs : List A) → map f (after_pop d xs) ≡ after_pop (f d) (map f xs)
  unfolding after_pop
  after_pop_map d xs =
      let m : ℕ = length xs - 1 in
      let s = map_sift d m (take m xs) 0 (get_or xs m d) in
      simp (map_cond, s, length-map xs f, get_or-map f xs m d, map_take)

-- which entry stands for one that is not there makes no difference
module _ {A : Type 0} (d e : A) where
  get_d_default : (xs : List A) (i : ℕ) → i < length xs → get_or xs i d ≡ get_or xs i e
  get_d_default [] i h = absurd (omega arith)
  get_d_default (x ∷ xs) zero h = refl
  get_d_default (x ∷ xs) (suc i) h = get_d_default xs i (omega arith)

  sift_default : (fuel : ℕ) (xs : List A) (q : ℕ) (v : A) → sift d fuel xs q v ≡ sift e fuel xs q v
  unfolding sift
  sift_default zero xs q v = refl
  sift_default (suc fuel) xs q v = ⊎_elim
      (λ (t : ltb (q + q + 2) (length xs) ≡ true).
      rw t (ap (λ (a : A). sift d fuel (set xs q a) (q + q + 2) v) (get_d_default xs (q + q + 2) (ltb-true (q + q + 2) (length xs) t)) ∙ sift_default fuel
      (set xs q (get_or xs (q + q + 2) e)) (q + q + 2) v))
      (λ (t : ltb (q + q + 2) (length xs) ≡ false). ⊎_elim
      (λ (u : ltb (q + q + 1) (length xs) ≡ true). rw (t, u)
      (ap (λ (a : A). set (set xs q a) (q + q + 1) v) (get_d_default xs (q + q + 1) (ltb-true (q + q + 1) (length xs) u))))
      (λ (u : ltb (q + q + 1) (length xs) ≡ false). rw (t, u))
      (either (ltb (q + q + 1) (length xs))))
      (either (ltb (q + q + 2) (length xs)))

  after_pop_default : (xs : List A) → after_pop d xs ≡ after_pop e xs
  unfolding after_pop
  after_pop_default xs =
      let m : ℕ = length xs - 1 in
      ⊎_elim
      (λ (t : eqb m 0 ≡ true). rw t)
      (λ (t : eqb m 0 ≡ false).
      let nz = eqb-false m 0 t in
      rw t (ap (λ (a : A). sift d m (take m xs) 0 a) (get_d_default xs m (omega arith)) ∙ sift_default m (take m xs) 0 (get_or xs m e)))
      (either (eqb m 0))

-- the pop over words of entries is the pop over entries
pub map_after_pop : {A B : Type 0} (f : A → B) (d : A) (e : B) (xs : List A) → map f (after_pop d xs) ≡ after_pop e (map f xs)
map_after_pop f d e xs = after_pop_map f d xs ∙ after_pop_default (f d) e (map f xs)

-- ---- faces in a slice
pub length_flat : (fs : List Face) → length (flat fs) ≡ 3 * length fs
unfolding flat
length_flat [] = refl
length_flat (f ∷ fs) = let ih = length_flat fs in omega arith

flat_snoc : (fs : List Face) (f : Face) → flat (fs ++ (f ∷ [])) ≡ flat fs ++ (f.a ∷ f.b ∷ f.c ∷ [])
unfolding flat
flat_snoc [] f = refl
flat_snoc (g ∷ fs) f = ap (λ (l : List ℕ). g.a ∷ g.b ∷ g.c ∷ l) (flat_snoc fs f)

pub written_none : (xs : List ℕ) → written [] xs ≡ xs
unfolding written flat
written_none xs = none (length xs / 3)
  where
    none : (k : ℕ) → flat (take k []) ++ drop (length (flat (take k []))) xs ≡ xs
    none zero = refl
    none (suc k) = refl

-- where all of them fit
written_all : (fs : List Face) (xs : List ℕ) → 3 * length fs ≤ length xs → written fs xs ≡ flat fs ++ drop (3 * length fs) xs
unfolding written
written_all fs xs h =
    let k : length fs ≤ length xs / 3 = omega arith in
    rw (take_all (length xs / 3) fs k, length_flat fs)

module _ (fs : List Face) (f : Face) (xs : List ℕ) where
  -- one face more, where it fits
  pub written_more : 3 * length fs + 3 ≤ length xs
      → set (set (set (written fs xs) (3 * length fs) f.a) (3 * length fs + 1) f.b) (3 * length fs + 2) f.c ≡ written (fs ++ (f ∷ [])) xs
  written_more h =
      let at : ℕ = 3 * length fs in
      let vs : List ℕ = f.a ∷ f.b ∷ f.c ∷ [] in
      let old : List ℕ = flat fs ++ drop at xs in
      let e1 : at + 1 ≡ suc at = omega arith in
      let e2 : at + 2 ≡ suc (suc at) = omega arith in
      let l : length (fs ++ (f ∷ [])) ≡ suc (length fs) = length-append fs (f ∷ []) ∙ (omega arith) in
      let e3 : 3 * length (fs ++ (f ∷ [])) ≡ at + 3 = omega arith in
      let long : at + 3 ≤ length old = omega (arith, length-append (flat fs) (drop at xs), length-drop at xs, length_flat fs) in
      let stored : set (set (set old at f.a) (at + 1) f.b) (at + 2) f.c
      ≡ sets old at vs = ap₂ (λ (i j : ℕ). set (set (set old at f.a) i f.b) j f.c) e1 e2 in
      let tail : drop (at + 3) old
      ≡ drop (at + 3) xs = ap (λ (k : ℕ). drop (k + 3) old) (sym (length_flat fs)) ∙ drop-append-add (flat fs) (drop at xs) 3 ∙ drop-drop 3 at xs in
      ap (λ (l : List ℕ). set (set (set l at f.a) (at + 1) f.b) (at + 2) f.c) (written_all fs xs (omega arith))
      ∙ stored ∙ sets-eq vs old at long
      ∙ ap₂ (λ (l m : List ℕ). l ++ vs ++ m) (take_at (flat fs) (drop at xs) at (length_flat fs)) tail
      ∙ ap₂ (λ (l : List ℕ) (k : ℕ). l ++ drop k xs) (sym (flat_snoc fs f)) (sym e3)
      ∙ sym (written_all (fs ++ (f ∷ [])) xs (omega arith))

  -- where it does not
  pub written_full : length xs < 3 * length fs + 3 → written fs xs ≡ written (fs ++ (f ∷ [])) xs
  unfolding written
  written_full h = let k : length xs / 3 ≤ length fs = omega arith in rw (take-append-le (length xs / 3) fs (f ∷ []) k)

pub length_written : (fs : List Face) (xs : List ℕ) → length (written fs xs) ≡ length xs
unfolding written
length_written fs xs =
    let front : List Face = take (length xs / 3) fs in
    let short : length front ≤ length xs / 3 = length_take_most (length xs / 3) fs in
    omega (arith, length-append (flat front) (drop (length (flat front)) xs), length-drop (length (flat front)) xs, length_flat front)
  where
    length_take_most : (k : ℕ) (l : List Face) → length (take k l) ≤ k
    length_take_most zero l = omega arith
    length_take_most (suc k) [] = omega arith
    length_take_most (suc k) (x ∷ l) = let ih = length_take_most k l in omega arith
