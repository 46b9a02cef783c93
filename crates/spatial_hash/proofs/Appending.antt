-- Laws of appending to the list of neighbours: nothing, one, one after another; and of a walk that appends a whole,
-- part by part. Assumes nothing.
use mathlib.Core.Path.{◌≡◌, refl, sym, ap, ◌∙◌, subst}
use mathlib.Core.List.{List, [], ◌∷◌, ◌++◌, append-nil, append_assoc}
use Prim.Native.Nat.{ℕ, suc, ◌+◌, ◌*◌, ◌≤◌, ◌<◌}
use native.Mathlib.Omega.{arith}
use lib.ListN.{length, take, drop, set, length-set, length-drop, length-append}
use lib.Seq.{take-set-le, drop-set-lt, drop-set-add, take-suc-set}
use lib.Ieee.{Float}
use Rattle.spatial_hash.specs.declared.Hash.{Hash}
use Rattle.spatial_hash.specs.Inner.Buckets.{links_of, Appended}
use Rattle.spatial_hash.specs.Inner.Near.{NeighborRoom}
use Rattle.spatial_hash.proofs.Kept.{links_behind, linked_behind}

pub appended_none : (n : ℕ) (w : List ℕ) (at : ℕ) → Appended n w w at at []
appended_none n w at = record { total = omega arith; appended = sym (append-nil (take at (drop (4 * n) w))); before = refl; after = refl; length_same = refl }

pub appended_one : (n : ℕ) (w : List ℕ) (at j : ℕ) → at < n → 24 * n + 64 ≤ length w → Appended n w (set w (4 * n + at) j) at (at + 1) (j ∷ [])
appended_one n w at j h long =
    let l : at < length (drop (4 * n) w) = simp length-drop (omega arith) in
    let e : at + 1 ≡ suc at = omega arith in
    record {
      total = refl;
      appended = ap (take (at + 1)) (drop-set-add (4 * n) w at j) ∙ ap (λ (k : ℕ). take k (set (drop (4 * n) w) at j)) e ∙ take-suc-set (drop (4 * n) w) at j l;
      before = take-set-le (4 * n) w (4 * n + at) j (omega arith);
      after = drop-set-lt (5 * n) w (4 * n + at) j (omega arith);
      length_same = length-set w (4 * n + at) j;
    }

pub appended_both : {n : ℕ} {w u v : List ℕ} {at r s : ℕ} {js ks : List ℕ} → Appended n w u at r js → Appended n u v r s ks → Appended n w v at s (js ++ ks)
appended_both {n} {w} {u} {v} {at} {r} {s} {js} {ks} a b =
    let l = length-append js ks in
    let p = a.total in
    let q = b.total in
    record {
      total = omega arith;
      appended = b.appended ∙ ap (λ (l : List ℕ). l ++ ks) a.appended ∙ simp append_assoc;
      before = b.before ∙ a.before;
      after = b.after ∙ a.after;
      length_same = b.length_same ∙ a.length_same;
    }

-- ---- a walk that began with w₀ and `from`, and is to append `whole`: `rest` is left

pub record Walking (h : Hash) (pts : List Float) (n : ℕ) (w₀ : List ℕ) (from : ℕ) (whole : List ℕ) (w : List ℕ) (at : ℕ) (rest : List ℕ) : Type 0 where
  pub leads : (u : List ℕ) (r : ℕ) → Appended n w u at r rest → Appended n w₀ u from r whole
  pub room : NeighborRoom h pts n w at rest
  pub links_same : links_of n w ≡ links_of n w₀
  pub length_same : length w ≡ length w₀

module _ {h : Hash} {pts : List Float} {n : ℕ} {w₀ : List ℕ} {from : ℕ} {whole : List ℕ} where
  pub walking_start : NeighborRoom h pts n w₀ from whole → Walking h pts n w₀ from whole w₀ from whole
  walking_start r = record { leads = λ u s a. a; room = r; links_same = refl; length_same = refl }

  -- the rest is written otherwise
  pub walking_as : {w : List ℕ} {at : ℕ} {rest rest' : List ℕ} → rest ≡ rest' → Walking h pts n w₀ from whole w at rest
      → Walking h pts n w₀ from whole w at rest'
  walking_as {w} {at} e s = subst (Walking h pts n w₀ from whole w at) e s

  -- there is room for the next part
  pub walking_room : {w : List ℕ} {at : ℕ} (js rest : List ℕ) → Walking h pts n w₀ from whole w at (js ++ rest) → NeighborRoom h pts n w at js
  walking_room js rest s = record { linked = s.room.linked; enough = let o = s.room.enough in let l = length-append js rest in omega arith }

  pub walking_step : {w u : List ℕ} {at r : ℕ} (js rest : List ℕ) → Walking h pts n w₀ from whole w at (js ++ rest) → Appended n w u at r js
      → Walking h pts n w₀ from whole u r rest
  walking_step {w} {u} {at} {r} js rest s a = record {
    leads = λ v q b. s.leads v q (appended_both a b);
    room = record {
      linked = linked_behind h pts n (5 * n) w u (omega arith) a.after a.length_same s.room.linked;
      enough = let o = s.room.enough in let l = length-append js rest in let t = a.total in omega arith;
    };
    links_same = links_behind h pts n (5 * n) w u (omega arith) a.after a.length_same ∙ s.links_same;
    length_same = a.length_same ∙ s.length_same;
  }

  pub walking_end : {w : List ℕ} {at : ℕ} → Walking h pts n w₀ from whole w at [] → Appended n w₀ w from at whole
  walking_end {w} {at} s = s.leads w at (appended_none n w at)
