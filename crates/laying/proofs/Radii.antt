-- One radius from its seed on, and all radii in turn. Assumes nothing.
use Prim.Native.Nat.{ℕ, suc, ◌+◌, ◌*◌, ◌≤◌, ◌<◌}
use mathlib.Core.Path.{◌≡◌, refl, sym, ap, ◌∙◌, subst}
use mathlib.Core.Bool.{Bool, true, false}
use mathlib.Core.List.{List, [], ◌∷◌, ◌++◌}
use mathlib.Core.Option.{Option, none, some}
use native.Mathlib.Omega.{arith}
use borrow.Author.Tests.{eqb-true}
use lib.Dec.{eqb}
use lib.ListN.{length, take, get_or}
use lib.Seq.{take-suc}
use lib.Ieee.{Float}
use Rattle.std.specs.Prelude.{Option as Outcome, Some, None}
use Rattle.lists.specs.Inner.Found.{option_found, option_sought}
use Rattle.lists.proofs.Found.{sought_found}
use Rattle.lists.specs.Lists.{bit, count}
use Rattle.patch.specs.Lay.{State, Rules, Pop, marked, with_face, cleared, seeded, run, begun, lay_one, lay_all, patch, blank}
use Rattle.patch.specs.Fair.{FreeSeed}
use Rattle.patch.specs.Frontier.{pop_of}
use Rattle.patch.specs.Inner.Invariant.{Inv, Rest}
use Rattle.patch.proofs.Looks.{clear_inv, seed_inv}
use Rattle.patch.proofs.Laying.{room, lay_all_rest, blank_rest}
use Rattle.patch.proofs.Pops.{pop_of_keeps}
use Rattle.spatial_hash.specs.declared.Hash.{Hash}
use Rattle.decisions.specs.declared.Scene.{Scene}
use Rattle.nearby.specs.Inner.Ready.{SceneKept, used_in_scene}
use Rattle.laying_steps.specs.declared.Counts.{Counts}
use Rattle.laying_words.specs.Inner.Words.{OnlyIn}
use Rattle.laying_steps.specs.Inner.Work.{HoldsState, Takes, Begins, Clears, NoneProcessed, FaceRoom}
use Rattle.laying_steps.proofs.Work.{ready}
use Rattle.laying.specs.Inner.Laying.{AllSearchable, LayingSearchable, Without, rules_of, LaysState, BetweenLooks, BetweenRadii}
use Rattle.laying.proofs.Kept.{Beside, beside_both, beside_search, beside_without, holds_beside, searchable_searched, searchable_laid, searchable_begun}
use Rattle.laying.proofs.Pivots.{fair}

-- ---- one radius
module _ {s : Scene} {hash : Hash} {pts : List Float} (rule : ℕ) (r : Float) {c : Counts} {w slice : List ℕ}
    (st : BetweenRadii s hash pts c w slice) {blank-counts : Counts} (clears : Clears c blank-counts)
    {found : Outcome (ℕ × ℕ × ℕ)} {u : List ℕ} (is : found ≡ option_found ((rules_of s pts).seed_of r (used_in_scene s w))) (kept : SceneKept s w u) (long : length u ≡ length w) where
  abbrev state : State
  state = st.state

  seed_is : (lent : List ℕ) (t : State) (o : Option (ℕ × ℕ × ℕ)) → HoldsState s.n lent t c w slice → found ≡ option_found o → (rules_of s pts).seed_of r t.used
      ≡ o
  seed_is lent t o h f =
      ap (λ (used : List ℕ). (rules_of s pts).seed_of r used) (sym h.used)
      ∙ sym (sought_found ((rules_of s pts).seed_of r (used_in_scene s w))) ∙ ap option_sought (sym is ∙ f) ∙ sought_found o

  -- no entry waits once the counts are cleared
  no_entries : blank-counts.first + blank-counts.frontier ≤ 3 * s.n
  unfolding cleared
  no_entries = omega (arith, clears.0, (clears.1 s.n w slice st.lent state st.holds).frontier_count)

  -- cleared, and searched for a seed
  begun_holds : {v : List ℕ} → Beside s.n w v → (lent : List ℕ) (t : State) → HoldsState s.n lent t c w slice
      → HoldsState s.n lent (cleared t) blank-counts v slice
  begun_holds b lent t h = holds_beside b no_entries (clears.1 s.n w slice lent t h)

  pub searched : LayingSearchable s hash pts u
  searched = searchable_searched u st.searchable kept long

  pub no_seed : found ≡ None → LaysState s hash pts (Rest s.n) (lay_one (rules_of s pts) (pop_of rule) s.n r) c w slice blank-counts u slice
  unfolding lay_one begun
  no_seed f = record {
    takes = λ lent t rest h. subst
        (λ (o : Option (ℕ × ℕ × ℕ)). HoldsState s.n lent (begun (rules_of s pts) (pop_of rule) r s.n o (cleared t)) blank-counts u slice)
        (sym (seed_is lent t none h f)) (begun_holds (beside_search u kept long) lent t h);
    searchable = searched;
    length_same = long;
  }

  module _ {i j k : ℕ} (f : found ≡ Some (i, j, k)) where
    free_found : (lent : List ℕ) (t : State) → HoldsState s.n lent t c w slice → FreeSeed s.n t.used (i, j, k)
    free_found lent t h = (fair s pts).seeds r t.used (i, j, k) (seed_is lent t (some (i, j, k)) h f)

    pub free_seed : FreeSeed s.n state.used (i, j, k)
    free_seed = free_found st.lent state st.holds

    none_processed : (t : State) → NoneProcessed (cleared t)
    unfolding cleared
    none_processed t = refl

    no_entry : length (cleared state).frontier ≡ 0
    unfolding cleared
    no_entry = refl

    points_below : (p : ℕ) → 1 ≤ count (eqb p) (i ∷ j ∷ k ∷ []) → p < s.n
    points_below p h = among_three (eqb p i) (eqb p j) (eqb p k) refl refl refl
      where
        among_three : (x y z : Bool) → eqb p i ≡ x → eqb p j ≡ y → eqb p k ≡ z → p < s.n
        among_three true y z e g q = let o = eqb-true p i e in omega (arith, free_seed.first.below)
        among_three false true z e g q = let o = eqb-true p j g in omega (arith, free_seed.second.below)
        among_three false false true e g q = let o = eqb-true p k q in omega (arith, free_seed.third.below)
        among_three false false false e g q = absurd (omega (arith, ap bit e, ap bit g, ap bit q))

    -- the seed's points are out
    module _ {v : List ℕ} (out : Without hash pts s.n (i ∷ j ∷ k ∷ []) u v) (same : length v ≡ length u) where
      aside : Beside s.n w v
      aside = beside_both (beside_search u kept long) (beside_without v out same)

      pub seed_room : FaceRoom s.n blank-counts v i j k
      seed_room =
          let h = begun_holds aside st.lent state st.holds in
          record {
            ready = ready s.n st.lent (cleared state) blank-counts v slice
                (record { some = st.searchable.some; few = st.searchable.held.few; long = omega (arith, st.searchable.held.work_long) })
                h (room s.n (cleared state) (clear_inv s.n state st.rest.inv st.rest.idle));
            entries = omega (arith, clears.0, h.frontier_count, no_entry, st.searchable.some);
            first = free_seed.first.below;
            second = free_seed.second.below;
            third = free_seed.third.below;
          }

      -- the seed was laid
      module _ {after : Counts} {x back : List ℕ} (takes : Takes s.n NoneProcessed (seeded (i, j, k)) blank-counts v slice after x back)
          (only : OnlyIn (5 * s.n) (9 * s.n) v x) where
        seed_holds : (lent : List ℕ) (t : State) → HoldsState s.n lent t c w slice → HoldsState s.n lent (seeded (i, j, k) (cleared t)) after x back
        seed_holds lent t h = takes lent (cleared t) (none_processed t) (begun_holds aside lent t h)

        seed_used : used_in_scene s x ≡ marked (used_in_scene s u) (i ∷ j ∷ k ∷ [])
        unfolding seeded with_face cleared
        seed_used =
            (seed_holds st.lent state st.holds).used
            ∙ ap (λ (used : List ℕ). marked used (i ∷ j ∷ k ∷ [])) (sym st.holds.used ∙ sym (ap (take s.n) kept.after))

        pub seed_between_looks : BetweenLooks s hash pts after x back
        seed_between_looks = record {
          searchable = searchable_laid x searched out same only seed_used points_below;
          lent = st.lent;
          state = seeded (i, j, k) (cleared state);
          inv = seed_inv s.n state st.rest.inv st.rest.idle (i, j, k) free_seed;
          holds = seed_holds st.lent state st.holds;
        }

        pub seed_laid : {end : Counts} {z front : List ℕ}
            → LaysState s hash pts (Inv s.n) (run (rules_of s pts) (pop_of rule) r (3 * s.n)) after x back end z front
            → LaysState s hash pts (Rest s.n) (lay_one (rules_of s pts) (pop_of rule) s.n r) c w slice end z front
        unfolding lay_one begun
        seed_laid {end} {z} {front} lays = record {
          takes = λ lent t rest h.
              subst (λ (o : Option (ℕ × ℕ × ℕ)). HoldsState s.n lent (begun (rules_of s pts) (pop_of rule) r s.n o (cleared t)) end z front)
              (sym (seed_is lent t (some (i, j, k)) h f))
              (lays.takes lent (seeded (i, j, k) (cleared t)) (seed_inv s.n t rest.inv rest.idle (i, j, k) (free_found lent t h))
              (seed_holds lent t h));
          searchable = lays.searchable;
          length_same = lays.length_same ∙ only.length_same ∙ same ∙ long;
        }

-- ---- all radii
lay_all_more : {R : Type 0} (rules : Rules R) (order : Pop) (n : ℕ) (rs : List R) (r : R) (t : State) → lay_all rules order n (rs ++ (r ∷ [])) t
    ≡ lay_one rules order n r (lay_all rules order n rs t)
unfolding lay_all
lay_all_more rules order n [] r t = refl
lay_all_more rules order n (x ∷ rs) r t = lay_all_more rules order n rs r (lay_one rules order n x t)

-- the first i radii have been laid
pub record Covering (rule : ℕ) (s : Scene) (hash : Hash) (pts radii : List Float) (count : ℕ) (lent w₀ : List ℕ) (i : ℕ) (c : Counts) (w slice : List ℕ)
    : Type 0 where
  pub inside : i ≤ count
  pub searchable : LayingSearchable s hash pts w
  pub holds : HoldsState s.n lent (lay_all (rules_of s pts) (pop_of rule) s.n (take i radii) (blank s.n)) c w slice
  pub words : length w ≡ length w₀
  pub face_words : length slice ≡ length lent

module _ {rule : ℕ} {s : Scene} {hash : Hash} {pts radii : List Float} {count : ℕ} {lent w₀ : List ℕ} where
  pub cover_start : {w : List ℕ} {c : Counts} → AllSearchable s hash pts w → Begins s.n c w₀ → OnlyIn (5 * s.n) (6 * s.n) w w₀
      → Covering rule s hash pts radii count lent w₀ 0 c w₀ lent
  unfolding lay_all
  cover_start {w} {c} g begins only = record {
    inside = omega arith;
    searchable = searchable_begun w₀ g only;
    holds = begins lent;
    words = refl;
    face_words = refl;
  }

  module _ {i : ℕ} {c : Counts} {w slice : List ℕ} (so_far : Covering rule s hash pts radii count lent w₀ i c w slice) where
    at_rest : Rest s.n (lay_all (rules_of s pts) (pop_of rule) s.n (take i radii) (blank s.n))
    at_rest = lay_all_rest s.n (rules_of s pts) (pop_of rule) (fair s pts) (pop_of_keeps rule) (take i radii) (blank s.n) (blank_rest s.n)

    pub between_radii : BetweenRadii s hash pts c w slice
    between_radii = record {
      searchable = so_far.searchable;
      lent = lent;
      state = lay_all (rules_of s pts) (pop_of rule) s.n (take i radii) (blank s.n);
      rest = at_rest;
      holds = so_far.holds;
    }

    pub cover_step : (d : Float) {after : Counts} {v back : List ℕ} → i < count → i < length radii
        → LaysState s hash pts (Rest s.n) (lay_one (rules_of s pts) (pop_of rule) s.n (get_or radii i d)) c w slice after v back → length back ≡ length slice
        → Covering rule s hash pts radii count lent w₀ (i + 1) after v back
    cover_step d {after} {v} {back} h g lays face-long =
        let e : i + 1 ≡ suc i = omega arith in
        let one_more : take (i + 1) radii ≡ take i radii ++ (get_or radii i d ∷ []) = ap (λ (m : ℕ). take m radii) e ∙ take-suc radii i d g in
        let step : lay_all (rules_of s pts) (pop_of rule) s.n (take (i + 1) radii) (blank s.n)
        ≡ lay_one (rules_of s pts) (pop_of rule) s.n (get_or radii i d) (lay_all (rules_of s pts) (pop_of rule) s.n (take i radii) (blank s.n)) =
        ap (λ (rs : List Float). lay_all (rules_of s pts) (pop_of rule) s.n rs (blank s.n)) one_more ∙ lay_all_more (rules_of s pts) (pop_of rule) s.n
        (take i radii) (get_or radii i d) (blank s.n) in
        record {
          inside = omega arith;
          searchable = lays.searchable;
          holds = subst (λ (t : State). HoldsState s.n lent t after v back) (sym step)
              (lays.takes lent (lay_all (rules_of s pts) (pop_of rule) s.n (take i radii) (blank s.n)) at_rest so_far.holds);
          words = lays.length_same ∙ so_far.words;
          face_words = face-long ∙ so_far.face_words;
        }

    pub cover_end : count ≤ i → HoldsState s.n lent (patch (rules_of s pts) (pop_of rule) s.n (take count radii)) c w slice
    unfolding patch
    cover_end h = let e : i
        ≡ count = omega (arith, so_far.inside) in subst
        (λ (m : ℕ). HoldsState s.n lent (lay_all (rules_of s pts) (pop_of rule) s.n (take m radii) (blank s.n)) c w slice) e so_far.holds
