-- What the lent slices hold between the steps of the search for a seed. Assumes nothing.
use Prim.Native.Nat.{ℕ, suc, ◌+◌, ◌-◌, ◌*◌, ◌≤◌, ◌<◌}
use mathlib.Core.Path.{◌≡◌, refl, sym, ap, ◌∙◌, subst}
use mathlib.Core.Bool.{true, false}
use mathlib.Core.List.{List, ◌∷◌}
use mathlib.Core.Option.{Option, none}
use native.Mathlib.Omega.{arith}
use lib.ListN.{length, take}
use lib.Ieee.{Float}
use Rattle.std.specs.Prelude.{Option as Outcome, Some, None}
use Rattle.lists.specs.Inner.Found.{option_found}
use Rattle.vector.specs.declared.Point3f.{Point3f}
use Rattle.points.specs.Points.{point_at}
use Rattle.grid.specs.Grid.{neighbors}
use Rattle.grid.specs.Inner.Index.{CellsIndexed}
use Rattle.lists.specs.Members.{Below}
use Rattle.grid.proofs.Near.{neighbors_below, indexed_kept}
use Rattle.lists.proofs.Members.{below_part, only_below}
use Rattle.spatial_hash.specs.declared.Hash.{Hash}
use Rattle.spatial_hash.specs.Inner.Near.{Hashed}
use Rattle.lists.specs.Lists.{unused, up_from}
use Rattle.patch.specs.Search.{first_of}
use Rattle.decisions.specs.declared.Scene.{Scene}
use Rattle.decisions.specs.Decisions.{floats_of}
use Rattle.nearby.specs.Inner.Ready.{SceneHeld, NeighborsListed, SceneKept, used_in_scene}
use Rattle.nearby.specs.Inner.Narrow.{in_reach, Sought}
use Rattle.nearby.proofs.Keeping.{kept_self, kept_on, held_kept, hashed_search}
use Rattle.seedless.specs.Inner.Parts.{with_first}
use Rattle.seedless.proofs.Laws.{or_else, up_step, up_end, first_tried, first_used, first_spent, first_end}
use Rattle.seed.proofs.Laws.{else_hit, else_miss}

-- ---- what is listed

-- points of the cloud
pub listed_points : {s : Scene} {pts : List Float} {w u : List ℕ} {a count : ℕ} {q : Point3f} {r : Float} → 24 * s.n + 64 ≤ length u
    → Sought s pts w u a q r count → NeighborsListed s u count
listed_points {s} {pts} {w} {u} {a} {count} {q} {r} long f = record {
  most = f.most;
  below = λ (m : ℕ) (h : m < count).
      let b = only_below (in_reach pts (used_in_scene s w) (point_at pts a) f.nearby.limit) s.n (neighbors s.indexed s.grid pts s.n q r)
      (neighbors_below s.indexed s.grid pts s.n q r) in
      below_part s.n u (4 * s.n) count m (subst (λ (l : List ℕ). Below s.n l) (sym f.nearby.same) b) h (omega (arith, f.most));
}

-- ---- the first point

-- what is found from the points is, so many of the unused ones being tried
abbrev firsts : Scene → List Float → Float → List ℕ → List ℕ → ℕ → Option (ℕ × ℕ × ℕ)
firsts s pts r w is left = first_of (floats_of s pts) r (used_in_scene s w) is left

-- the points below i have been tried, `left` more unused ones may be
pub record Seeking (s : Scene) (pts : List Float) (r : Float) (hash : Hash) (w₀ w : List ℕ) (left i : ℕ) : Type 0 where
  pub held : SceneHeld s pts w
  pub hashed : Hashed hash pts s.n w
  pub indexed : CellsIndexed s.grid pts s.n w
  pub kept : SceneKept s w₀ w
  pub same : length w ≡ length w₀
  pub most : left ≤ 1000
  pub inside : i ≤ s.n
  pub rest : firsts s pts r w₀ (up_from 0 s.n) 1000 ≡ firsts s pts r w₀ (up_from i (s.n - i)) left

module _ {s : Scene} {pts : List Float} {r : Float} {hash : Hash} {w₀ : List ℕ} where
  pub seek_start : SceneHeld s pts w₀ → CellsIndexed s.grid pts s.n w₀ → Hashed hash pts s.n w₀ → Seeking s pts r hash w₀ w₀ 1000 0
  seek_start h x d =
      let e : s.n ≡ s.n - 0 = omega arith in
      record {
        held = h;
        hashed = d;
        indexed = x;
        kept = kept_self s w₀;
        same = refl;
        most = omega arith;
        inside = omega arith;
        rest = ap
            (λ (m : ℕ). firsts s pts r w₀ (up_from 0 m) 1000) e;
      }

  module _ {w : List ℕ} {left i : ℕ} (k : Seeking s pts r hash w₀ w left i) where
    abbrev on : List ℕ
    on = up_from (i + 1) (s.n - (i + 1))

    pub seek_end : s.n ≤ i → firsts s pts r w₀ (up_from 0 s.n) 1000 ≡ none
    seek_end h = k.rest ∙ ap (λ (is : List ℕ). firsts s pts r w₀ is left) (up_end s.n i h) ∙ first_end (floats_of s pts) r (used_in_scene s w₀) left

    at_point : i < s.n → firsts s pts r w₀ (up_from 0 s.n) 1000 ≡ firsts s pts r w₀ (i ∷ on) left
    at_point h = k.rest ∙ ap (λ (is : List ℕ). firsts s pts r w₀ is left) (up_step s.n i h)

    pub seek_spent : i < s.n → left ≡ 0 → firsts s pts r w₀ (up_from 0 s.n) 1000 ≡ none
    seek_spent h e = at_point h ∙ ap (firsts s pts r w₀ (i ∷ on)) e ∙ first_spent (floats_of s pts) r (used_in_scene s w₀) i on

    -- there is one more try, and the used points are still those of the beginning
    one_more : (left ≡ 0 → ⊥) → left ≡ suc (left - 1)
    one_more h = omega arith

    used_is : used_in_scene s w ≡ used_in_scene s w₀
    used_is = ap (take s.n) k.kept.after

    pub seek_used : i < s.n → (left ≡ 0 → ⊥) → unused (used_in_scene s w) i ≡ false → Seeking s pts r hash w₀ w left (i + 1)
    seek_used h ne t = record {
      held = k.held;
      hashed = k.hashed;
      indexed = k.indexed;
      kept = k.kept;
      same = k.same;
      most = k.most;
      inside = omega arith;
      rest = at_point h
          ∙ ap (firsts s pts r w₀ (i ∷ on)) (one_more ne)
          ∙ first_used (floats_of s pts) r (used_in_scene s w₀) i on (left - 1) (ap (λ (l : List ℕ). unused l i) (sym used_is) ∙ t)
          ∙ sym (ap (firsts s pts r w₀ on) (one_more ne));
    }

    tried : i < s.n → (left ≡ 0 → ⊥) → unused (used_in_scene s w) i ≡ true → firsts s pts r w₀ (up_from 0 s.n) 1000
        ≡ or_else (with_first (floats_of s pts) r (used_in_scene s w₀) i) (firsts s pts r w₀ on (left - 1))
    tried h ne t = at_point h ∙ ap (firsts s pts r w₀ (i ∷ on)) (one_more ne) ∙ first_tried (floats_of s pts) r (used_in_scene s w₀) i on (left - 1)
        (ap (λ (l : List ℕ). unused l i) (sym used_is) ∙ t)

    found_is : {found x : Outcome (ℕ × ℕ × ℕ)} → found ≡ option_found (with_first (floats_of s pts) r (used_in_scene s w) i) → found ≡ x
        → option_found (with_first (floats_of s pts) r (used_in_scene s w₀) i) ≡ x
    found_is e f = ap (λ (l : List ℕ). option_found (with_first (floats_of s pts) r l i)) (sym used_is) ∙ sym e ∙ f

    pub seek_hit : {x : ℕ × ℕ × ℕ} {found : Outcome (ℕ × ℕ × ℕ)} → i < s.n → (left ≡ 0 → ⊥) → unused (used_in_scene s w) i ≡ true
        → found ≡ option_found (with_first (floats_of s pts) r (used_in_scene s w) i) → found ≡ Some x → Some x
        ≡ option_found (firsts s pts r w₀ (up_from 0 s.n) 1000)
    seek_hit {x} h ne t e f = sym
        (ap option_found (tried h ne t) ∙ else_hit (with_first (floats_of s pts) r (used_in_scene s w₀) i) (firsts s pts r w₀ on (left - 1)) x (found_is e f))

    -- after what changes nothing but the list of neighbours
    pub seek_kept : (v : List ℕ) → SceneKept s w v → length v ≡ length w → Seeking s pts r hash w₀ v left i
    seek_kept v kv l = record {
      held = held_kept v k.held l;
      hashed = hashed_search {s = s} v k.hashed l kv;
      indexed = indexed_kept v k.indexed l kv.before;
      kept = kept_on k.kept kv;
      same = l ∙ k.same;
      most = k.most;
      inside = k.inside;
      rest = k.rest;
    }

    pub seek_miss : {found : Outcome (ℕ × ℕ × ℕ)} (v : List ℕ) → i < s.n → (left ≡ 0 → ⊥) → unused (used_in_scene s w) i ≡ true
        → found ≡ option_found (with_first (floats_of s pts) r (used_in_scene s w) i) → found ≡ None → SceneKept s w v → length v ≡ length w
        → Seeking s pts r hash w₀ v (left - 1) (i + 1)
    seek_miss v h ne t e f kv l =
        let z = seek_kept v kv l in record {
          held = z.held;
          hashed = z.hashed;
          indexed = z.indexed;
          kept = z.kept;
          same = z.same;
          most = omega (arith, k.most);
          inside = omega arith;
          rest = tried h ne t ∙ else_miss (with_first (floats_of s pts) r (used_in_scene s w₀) i) (firsts s pts r w₀ on (left - 1)) (found_is e f);
        }
