-- The radii that are kept, turn by turn of the loop. Assumes nothing.
use mathlib.Core.Path.{◌≡◌, refl, sym, ap, ◌∙◌, subst}
use mathlib.Core.Bool.{Bool, true, false, cond}
use mathlib.Core.List.{List, [], ◌∷◌, ◌++◌, append-nil}
use Prim.Native.Nat.{ℕ, suc, ◌+◌, ◌-◌, ◌≤◌, ◌<◌}
use native.Mathlib.Omega.{arith}
use lib.ListN.{length, take, drop, get_or, set, replicate, length-append, length-drop, length-replicate, drop_of_length-le}
use lib.Seq.{length-take-le, drop-cons, get_or-take, get_or_at, take-suc-set, drop-set-lt, drop-drop, append_snoc}
use lib.Ieee.{Float, nan, lt}
use Rattle.numbers.specs.Rounded.{f32, ◌⊖◌}
use Rattle.sorting.proofs.Insertion.{part_length, part_at}
use Rattle.radii.specs.declared.Radii.{Radii}
use Rattle.radii.specs.Radii.{dedup, spaced}
use Rattle.radii.specs.Inner.Steps.{RadiiListed, with_radius}

-- the last of some radii
abbrev pub last_of : List Float → Float
last_of xs = get_or xs (length xs - 1) nan

-- ---- one radius is looked at
turn : (kept : List Float) (x : Float) (rest : List Float) → kept ++ spaced (last_of kept) (x ∷ rest) ≡ with_radius kept x
    ++ spaced (last_of (with_radius kept x)) rest
unfolding spaced with_radius
turn kept x rest = go (lt (x ⊖ last_of kept) (f32 0x358637bd))
  where
    last_is : last_of (kept ++ (x ∷ [])) ≡ x
    last_is =
        let e : length (kept ++ (x ∷ [])) - 1 ≡ length kept = simp length-append (omega arith) in
        ap (λ (k : ℕ). get_or (kept ++ (x ∷ [])) k nan) e ∙ get_or_at kept x [] nan (length kept) refl

    go : (b : Bool) → kept ++ cond b (spaced (last_of kept) rest) (x ∷ spaced x rest) ≡ cond b kept (kept ++ (x ∷ []))
        ++ spaced (last_of (cond b kept (kept ++ (x ∷ [])))) rest
    go true = refl
    go false = sym (append_snoc kept x (spaced x rest)) ∙ ap (λ (y : Float). (kept ++ (x ∷ [])) ++ spaced y rest) (sym last_is)

-- ---- the radii to come
module _ (f : List Float) (at m : ℕ) (long : at + m ≤ length f) where
  pub spaced_start : (x : Float) → 1 ≤ m → x ≡ get_or f at nan → dedup (take m (drop at f)) ≡ (x ∷ []) ++ spaced (last_of (x ∷ [])) (drop 1 (take m (drop at f)))
  unfolding dedup
  spaced_start x h e =
      let z : at + 0 ≡ at = omega arith in
      ap dedup (
      drop-cons (take m (drop at f)) 0 nan (subst (λ (k : ℕ). 0 < k) (sym (part_length f at m long)) h)
      ∙ ap (λ (y : Float). y ∷ drop 1 (take m (drop at f))) (part_at f at m long 0 nan h ∙ ap (λ (k : ℕ). get_or f k nan) z ∙ sym e)
      )

  pub spaced_step : (k : ℕ) (kept kept' : List Float) → k < m → kept' ≡ with_radius kept (get_or f (at + k) nan)
      → kept ++ spaced (last_of kept) (drop k (take m (drop at f))) ≡ kept' ++ spaced (last_of kept') (drop (k + 1) (take m (drop at f)))
  spaced_step k kept kept' h e =
      let s : suc k ≡ k + 1 = omega arith in
      ap (λ (l : List Float). kept ++ spaced (last_of kept) l) (
      drop-cons (take m (drop at f)) k nan (subst (λ (j : ℕ). k < j) (sym (part_length f at m long)) h)
      ∙ ap (λ (y : Float). y ∷ drop (suc k) (take m (drop at f))) (part_at f at m long k nan h)
      ∙ ap (λ (j : ℕ). get_or f (at + k) nan ∷ drop j (take m (drop at f))) s
      )
      ∙ turn kept (get_or f (at + k) nan) (drop (k + 1) (take m (drop at f)))
      ∙ ap (λ (l : List Float). l ++ spaced (last_of l) (drop (k + 1) (take m (drop at f)))) (sym e)

  pub spaced_end : (k : ℕ) (kept : List Float) → m ≤ k → kept ++ spaced (last_of kept) (drop k (take m (drop at f))) ≡ kept
  unfolding spaced
  spaced_end k kept h =
      ap (λ (l : List Float). kept ++ spaced (last_of kept) l)
      (drop_of_length-le (take m (drop at f)) (subst (λ (j : ℕ). j ≤ k) (sym (part_length f at m long)) h)) ∙ append-nil kept

-- ---- the list of radii
pub listed_none : RadiiListed [] (record { list = replicate 17 (f32 0); count = 0 })
listed_none = record { few = omega arith; counted = refl; kept = refl; zeros = refl }

pub listed_one : (x : Float) → RadiiListed (x ∷ []) (record { list = set (replicate 17 (f32 0)) 0 x; count = 1 })
listed_one x = record { few = omega arith; counted = refl; kept = refl; zeros = refl }

-- its own radii
pub listed_self : {xs : List Float} {r : Radii} → RadiiListed xs r → RadiiListed (take r.count r.list) r
listed_self h = record { few = h.few; counted = h.counted ∙ ap length (sym h.kept); kept = refl; zeros = h.zeros }

module _ (r : Radii) (x y : Float) (some : 1 ≤ r.count) (room : r.count ≤ 16) (h : RadiiListed (take r.count r.list) r)
    (last : y ≡ get_or r.list (r.count - 1) nan) where
  size : length r.list ≡ 17
  size = let e : length r.list - r.count
      ≡ 17 - r.count = sym (length-drop r.count r.list) ∙ ap length h.zeros ∙ length-replicate (17 - r.count) (f32 0) in omega arith

  count_is : length (take r.count r.list) ≡ r.count
  count_is = length-take-le r.count r.list (omega (arith, size))

  last_is : last_of (take r.count r.list) ≡ y
  last_is =
      let l : r.count - 1 < r.count = omega arith in
      ap (λ (k : ℕ). get_or (take r.count r.list) (k - 1) nan) count_is ∙ get_or-take r.count r.list (r.count - 1) nan l ∙ sym last

  pub radius_dropped : lt (x ⊖ y) (f32 0x358637bd) ≡ true → RadiiListed (with_radius (take r.count r.list) x) r
  unfolding with_radius
  radius_dropped t = rw (last_is, t) h

  pub radius_kept : lt (x ⊖ y) (f32 0x358637bd) ≡ false
      → RadiiListed (with_radius (take r.count r.list) x) (record { list = set r.list r.count x; count = r.count + 1 })
  unfolding with_radius
  radius_kept t =
      let e : r.count + 1 ≡ suc r.count = omega arith in
      let k : 17 - r.count ≡ suc (17 - (r.count + 1)) = omega arith in
      rw (last_is, t)
      (record {
        few = omega arith;
        counted = omega (arith, length-append (take r.count r.list) (x ∷ []), count_is);
        kept = ap (λ (j : ℕ). take j (set r.list r.count x)) e ∙ take-suc-set r.list r.count x (omega (arith, size));
        zeros =
            drop-set-lt (r.count + 1) r.list r.count x (omega arith)
            ∙ sym (drop-drop 1 r.count r.list)
            ∙ ap (drop 1) h.zeros
            ∙ ap (λ (j : ℕ). drop 1 (replicate j (f32 0))) k;
      })
