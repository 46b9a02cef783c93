-- Laws of the walks over remainders: k of them from r on are left, and each has its own points. Assumes nothing.
use mathlib.Core.Path.{◌≡◌, refl, sym, ap, ◌∙◌, subst}
use mathlib.Core.List.{List, [], ◌++◌}
use Prim.Native.Nat.{ℕ, ◌+◌, ◌-◌, ◌*◌, ◌≤◌, ◌<◌}
use native.Mathlib.Omega.{arith}
use lib.Ieee.{Float}
use Rattle.spatial_hash.specs.declared.Hash.{Hash}
use Rattle.bucket_order.specs.Inner.Chains.{buckets_listed}
use Rattle.spatial_hash.specs.Inner.Buckets.{bucket_in, links_of, next_residue, residues, row, rows, points_in, Appended}
use Rattle.spatial_hash.specs.Inner.Near.{NeighborRoom}
use Rattle.bucket_order.proofs.Chains.{listed_append}
use Rattle.spatial_hash.proofs.Residues.{residues_step, rows_append, next_below}
use Rattle.spatial_hash.proofs.Appending.{Walking, walking_start, walking_as, walking_room, walking_step, walking_end}

-- the buckets that are left of a plane and of all
abbrev pub plane_left : ℕ → ℕ → List ℕ → ℕ → ℕ → List ℕ
plane_left m x zs r k = rows (m + 1) (row m x (residues m r k)) zs

abbrev pub box_left : ℕ → List ℕ → List ℕ → ℕ → ℕ → List ℕ
box_left m ys zs r k = rows (m + 1) (rows m (residues m r k) ys) zs

-- `bs r k` are the buckets left; js ls r the points of those with the remainder r, the links being ls
pub record Splits (h : Hash) (pts : List Float) (n : ℕ) (bs : ℕ → ℕ → List ℕ) (js : List ℕ → ℕ → List ℕ) : Type 0 where
  pub one : (ls : List ℕ) (r k : ℕ) → 0 < k → points_in h pts n ls (bs r k) ≡ js ls r ++ points_in h pts n ls (bs (next_residue h.side r) (k - 1))
  pub none : (ls : List ℕ) (r : ℕ) → points_in h pts n ls (bs r 0) ≡ []

module _ (h : Hash) (pts : List Float) (n : ℕ) where
  pub plane_splits : (x : ℕ) (zs : List ℕ) → Splits h pts n (plane_left h.side x zs) (λ ls r. points_in h pts n ls (row (h.side + 1) (x * h.side + r) zs))
  unfolding row rows buckets_listed residues
  plane_splits x zs = record {
    one = λ ls r k l.
        ap (λ (rs : List ℕ). points_in h pts n ls (rows (h.side + 1) (row h.side x rs) zs)) (residues_step h.side r k l)
        ∙ listed_append (bucket_in h pts n ls) n (row (h.side + 1) (x * h.side + r) zs) (plane_left h.side x zs (next_residue h.side r) (k - 1));
    none = λ ls r. refl;
  }

  pub box_splits : (ys zs : List ℕ) → Splits h pts n (box_left h.side ys zs) (λ ls r. points_in h pts n ls (rows (h.side + 1) (row h.side r ys) zs))
  unfolding rows buckets_listed residues
  box_splits ys zs = record {
    one = λ ls r k l.
        ap (λ (rs : List ℕ). points_in h pts n ls (rows (h.side + 1) (rows h.side rs ys) zs)) (residues_step h.side r k l)
        ∙ ap (points_in h pts n ls)
        (rows_append (h.side + 1) (row h.side r ys) (rows h.side (residues h.side (next_residue h.side r) (k - 1)) ys) zs)
        ∙ listed_append (bucket_in h pts n ls) n (rows (h.side + 1) (row h.side r ys) zs) (box_left h.side ys zs (next_residue h.side r) (k - 1));
    none = λ ls r. refl;
  }

-- a walk over k₀ remainders that began with r₀, i of which are behind
pub record Visiting (h : Hash) (pts : List Float) (n : ℕ) (bs : ℕ → ℕ → List ℕ) (w₀ : List ℕ) (from r₀ k₀ : ℕ) (w : List ℕ) (at r i : ℕ) : Type 0 where
  pub walking : Walking h pts n w₀ from (points_in h pts n (links_of n w₀) (bs r₀ k₀)) w at (points_in h pts n (links_of n w₀) (bs r (k₀ - i)))
  pub below : r < h.side

module _ {h : Hash} {pts : List Float} {n : ℕ} {bs : ℕ → ℕ → List ℕ} {w₀ : List ℕ} {from r₀ k₀ : ℕ} where
  pub visiting_start : r₀ < h.side → NeighborRoom h pts n w₀ from (points_in h pts n (links_of n w₀) (bs r₀ k₀))
      → Visiting h pts n bs w₀ from r₀ k₀ w₀ from r₀ 0
  visiting_start l s =
      let e : k₀ ≡ k₀ - 0 = omega arith in
      record { walking = walking_as (ap (λ (k : ℕ). points_in h pts n (links_of n w₀) (bs r₀ k)) e) (walking_start s); below = l }

  module _ {js : List ℕ → ℕ → List ℕ} (p : Splits h pts n bs js) {w : List ℕ} {at r i : ℕ} where
    split : i < k₀ → Visiting h pts n bs w₀ from r₀ k₀ w at r i
        → Walking h pts n w₀ from (points_in h pts n (links_of n w₀) (bs r₀ k₀)) w at
        (js (links_of n w₀) r ++ points_in h pts n (links_of n w₀) (bs (next_residue h.side r) (k₀ - (i + 1))))
    split l s =
        let e : k₀ - i - 1 ≡ k₀ - (i + 1) = omega arith in
        walking_as (p.one (links_of n w₀) r (k₀ - i) (omega arith)
        ∙ ap (λ (k : ℕ). js (links_of n w₀) r ++ points_in h pts n (links_of n w₀) (bs (next_residue h.side r) k)) e) s.walking

    -- there is room for the points with the remainder r
    pub visiting_room : i < k₀ → Visiting h pts n bs w₀ from r₀ k₀ w at r i → NeighborRoom h pts n w at (js (links_of n w) r)
    visiting_room l s = subst (λ (ls : List ℕ). NeighborRoom h pts n w at (js ls r)) (sym s.walking.links_same)
        (walking_room (js (links_of n w₀) r) (points_in h pts n (links_of n w₀) (bs (next_residue h.side r) (k₀ - (i + 1)))) (split l s))

    pub visiting_step : {u : List ℕ} {t q : ℕ} → i < k₀ → Visiting h pts n bs w₀ from r₀ k₀ w at r i → Appended n w u at t (js (links_of n w) r) → q
        ≡ next_residue h.side r → Visiting h pts n bs w₀ from r₀ k₀ u t q (i + 1)
    visiting_step {u} {t} l s a e =
        subst (λ (z : ℕ). Visiting h pts n bs w₀ from r₀ k₀ u t z (i + 1)) (sym e)
        record {
          walking = walking_step (js (links_of n w₀) r) (points_in h pts n (links_of n w₀) (bs (next_residue h.side r) (k₀ - (i + 1)))) (split l s)
              (subst (λ (ls : List ℕ). Appended n w u at t (js ls r)) s.walking.links_same a);
          below = next_below h.side r s.below;
        }

    pub visiting_end : k₀ ≤ i → Visiting h pts n bs w₀ from r₀ k₀ w at r i → Appended n w₀ w from at (points_in h pts n (links_of n w₀) (bs r₀ k₀))
    visiting_end l s =
        let e : k₀ - i ≡ 0 = omega arith in
        walking_end (walking_as (ap (λ (k : ℕ). points_in h pts n (links_of n w₀) (bs r k)) e ∙ p.none (links_of n w₀) r) s.walking)
