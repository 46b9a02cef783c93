-- How many faces there are after each radius, kept in an array as the radii go by. Assumes nothing.
use Prim.Native.Nat.{ℕ, ◌+◌, ◌≤◌, ◌<◌}
use mathlib.Core.Path.{◌≡◌, refl, sym, ap, ◌∙◌}
use mathlib.Core.List.{List, [], ◌∷◌, ◌++◌}
use native.Mathlib.Omega.{arith}
use native.Mathlib.Numerals.{add-one}
use lib.ListN.{length, take, set, get_or, replicate, length-set}
use lib.Seq.{take-suc, take-suc-set}
use lib.Ieee.{Float, nan}
use Rattle.patch.specs.Lay.{State, Rules, Pop, lay_one, lay_all, blank}
use Rattle.patch.specs.Frontier.{pop_of}
use Rattle.origins.specs.Inner.Following.{marks_from}
use Rattle.spatial_hash.specs.declared.Hash.{Hash}
use Rattle.decisions.specs.declared.Scene.{Scene}
use Rattle.laying_steps.specs.declared.Counts.{Counts}
use Rattle.laying.specs.Inner.Laying.{rules_of}
use Rattle.laying.proofs.Radii.{Covering}

marks_more : {R : Type 0} (rules : Rules R) (order : Pop) (n : ℕ) (rs : List R) (r : R) (t : State) → marks_from rules order n (rs ++ (r ∷ [])) t
    ≡ marks_from rules order n rs t ++ (length (lay_all rules order n (rs ++ (r ∷ [])) t).faces ∷ [])
unfolding marks_from lay_all
marks_more rules order n [] r t = refl
marks_more rules order n (x ∷ rs) r t =
    ap (λ (l : List ℕ). length (lay_one rules order n x t).faces ∷ l) (marks_more rules order n rs r (lay_one rules order n x t))

-- the first i marks are set
pub record Marking (rule : ℕ) (s : Scene) (pts radii : List Float) (i : ℕ) (marks : List ℕ) : Type 0 where
  pub long : length marks ≡ 17
  pub so_far : take i marks ≡ marks_from (rules_of s pts) (pop_of rule) s.n (take i radii) (blank s.n)

pub marks_start : (rule : ℕ) (s : Scene) (pts radii : List Float) → Marking rule s pts radii 0 (replicate 17 0)
unfolding marks_from
marks_start rule s pts radii = record { long = refl; so_far = refl }

module _ {rule : ℕ} {s : Scene} {hash : Hash} {pts radii : List Float} {count : ℕ} {lent w₀ : List ℕ} {i : ℕ} {c : Counts} {w slice : List ℕ} where
  pub marks_step : (marks : List ℕ) → Covering rule s hash pts radii count lent w₀ (i + 1) c w slice → i < 17 → i < length radii
      → Marking rule s pts radii i marks → Marking rule s pts radii (i + 1) (set marks i c.faces)
  marks_step marks on few within m =
      let rules = rules_of s pts in
      let one_more : take (i + 1) radii ≡ take i radii ++ (get_or radii i nan ∷ []) = ap (λ (k : ℕ). take k radii) (add-one i) ∙ take-suc radii i nan within in
      let told : c.faces ≡ length (lay_all rules (pop_of rule) s.n (take i radii ++ (get_or radii i nan ∷ [])) (blank s.n)).faces =
      on.holds.faces_count ∙ ap (λ (rs : List Float). length (lay_all rules (pop_of rule) s.n rs (blank s.n)).faces) one_more in
      record {
        long = length-set marks i c.faces ∙ m.long;
        so_far =
            ap (λ (k : ℕ). take k (set marks i c.faces)) (add-one i)
            ∙ take-suc-set marks i c.faces (omega (arith, m.long))
            ∙ ap (λ (l : List ℕ). l ++ (c.faces ∷ [])) m.so_far
            ∙ ap (λ (k : ℕ). marks_from rules (pop_of rule) s.n (take i radii) (blank s.n) ++ (k ∷ [])) told
            ∙ sym (marks_more rules (pop_of rule) s.n (take i radii) (get_or radii i nan) (blank s.n))
            ∙ ap (λ (rs : List Float). marks_from rules (pop_of rule) s.n rs (blank s.n)) (sym one_more);
      }

pub marks_end : {rule : ℕ} {s : Scene} {pts radii : List Float} {i : ℕ} (marks : List ℕ) (count : ℕ) → i ≤ count → count ≤ i → Marking rule s pts radii i marks
    → take count marks ≡ marks_from (rules_of s pts) (pop_of rule) s.n (take count radii) (blank s.n)
marks_end {rule} {s} {pts} {radii} {i} marks count a b m =
    let e : count ≡ i = omega arith in
    ap (λ (k : ℕ). take k marks) e ∙ m.so_far ∙ ap (λ (k : ℕ). marks_from (rules_of s pts) (pop_of rule) s.n (take k radii) (blank s.n)) (sym e)
