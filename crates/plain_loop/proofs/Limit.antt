-- A loop that stops at the limit leaves the first 10,000 of all faces that it would lay without one. Assumes nothing.
use Prim.Native.Nat.{ℕ, zero, suc, ◌≤◌, ◌<◌}
use native.Mathlib.Nat.{min-le_left}
use native.Mathlib.Omega.{arith}
use mathlib.Core.Path.{◌≡◌, refl, sym, ap, ◌∙◌}
use mathlib.Core.Bool.{Bool, true, false, cond}
use mathlib.Core.List.{List, [], ◌∷◌, ◌++◌, append_assoc, append-nil}
use lib.Dec.{leb}
use lib.ListN.{length, take, length-take}
use lib.Seq.{take_all, take_at}
use borrow.Author.Tests.{leb-true, leb-false}
use Rattle.patch.specs.Lay.{Face}
use Rattle.plain_loop.specs.SimpleTriangulate.{max_triangles, loop}

-- the definition's limit
pub limit_is : max_triangles ≡ 10000
limit_is = refl

-- what each of some numbers gives, one after the other
abbrev pub each : (ℕ → List Face) → List ℕ → List Face
each f [] = []
each f (x ∷ xs) = f x ++ each f xs

take_twice : (n : ℕ) (xs ys : List Face) → take n (take n xs ++ ys) ≡ take n (xs ++ ys)
take_twice zero xs ys = refl
take_twice (suc n) [] ys = refl
take_twice (suc n) (x ∷ xs) ys = ap (λ (l : List Face). x ∷ l) (take_twice n xs ys)

module _ (body : ℕ → List Face → List Face) (f : ℕ → List Face)
    (one : (x : ℕ) (ts : List Face) → length ts < max_triangles → body x ts ≡ take max_triangles (ts ++ f x)) where
  pub loop_is : (xs : List ℕ) (ts : List Face) → length ts ≤ max_triangles
      → loop body xs ts ≡ take max_triangles (ts ++ each f xs)
  unfolding loop
  loop_is [] ts h = sym (ap (take max_triangles) (append-nil ts) ∙ take_all max_triangles ts h)
  loop_is (x ∷ xs) ts h = go (leb max_triangles (length ts)) refl
      (λ (u : List Face) (l : length u ≤ max_triangles). loop_is xs u l)
    where
      go : (t : Bool) → leb max_triangles (length ts) ≡ t
          → ((u : List Face) → length u ≤ max_triangles → loop body xs u ≡ take max_triangles (u ++ each f xs))
          → cond t ts (loop body xs (body x ts)) ≡ take max_triangles (ts ++ (f x ++ each f xs))
      go true e ih =
          let full : length ts ≡ max_triangles = omega (arith, leb-true max_triangles (length ts) e) in
          sym (take_at ts (f x ++ each f xs) max_triangles full)
      go false e ih =
          let l : length ts < max_triangles = omega (arith, leb-false max_triangles (length ts) e) in
          let u : List Face = take max_triangles (ts ++ f x) in
          let few : length u ≤ max_triangles =
          omega (arith, length-take max_triangles (ts ++ f x), min-le_left max_triangles (length (ts ++ f x))) in
          ap (loop body xs) (one x ts l) ∙ ih u few ∙ take_twice max_triangles (ts ++ f x) (each f xs)
          ∙ ap (take max_triangles) (append_assoc ts (f x) (each f xs))
