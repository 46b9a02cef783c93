-- The looks of one radius, until no entry waits. Assumes nothing.
use Prim.Native.Nat.{ℕ, zero, suc, ◌+◌, ◌-◌, ◌*◌, ◌≤◌, ◌<◌}
use mathlib.Core.Path.{◌≡◌, refl, sym, ap, ◌∙◌, subst}
use mathlib.Core.List.{List, [], ◌∷◌}
use native.Mathlib.Omega.{arith}
use lib.ListN.{length}
use lib.Ieee.{Float}
use Rattle.patch.specs.Lay.{Edge, State, next, run}
use Rattle.patch.specs.Frontier.{pop_of}
use Rattle.patch.specs.Inner.Invariant.{Inv}
use Rattle.patch.proofs.Laying.{room, run_idle}
use Rattle.patch.proofs.Pops.{pop_of_keeps}
use Rattle.spatial_hash.specs.declared.Hash.{Hash}
use Rattle.decisions.specs.declared.Scene.{Scene}
use Rattle.laying_steps.specs.declared.Counts.{Counts}
use Rattle.laying_steps.specs.Inner.Work.{HoldsState}
use Rattle.laying.specs.Inner.Laying.{rules_of, look_under, LaysState, BetweenLooks}
use Rattle.laying.proofs.Kept.{waiting, none_waits}
use Rattle.laying.proofs.Pivots.{fair, looked_looked}

-- ---- the definition's run, from its end
module _ (rule : ℕ) (s : Scene) (pts : List Float) (r : Float) where
  abbrev ran : ℕ → State → State
  ran = run (rules_of s pts) (pop_of rule) r

  run_more : (m : ℕ) (t : State) → ran (suc m) t ≡ look_under rule s pts r (ran m t)
  unfolding run
  run_more zero t = refl
  run_more (suc m) t = run_more m (look_under rule s pts r t)

  run_on : (k m j : ℕ) (t : State) → j ≡ k + m → ran j t ≡ ran m (ran k t)
  unfolding run
  run_on zero m j t h = let e : j ≡ m = omega arith in ap (λ (i : ℕ). ran i t) e
  run_on (suc k) m j t h = let e : j ≡ suc (k + m) = omega arith in ap (λ (i : ℕ). ran i t) e ∙ run_on k m (k + m) (look_under rule s pts r t) refl

  -- once no entry waits, nothing more happens
  run_stop : (k m : ℕ) (t : State) → k ≤ m → (ran k t).frontier ≡ [] → ran m t ≡ ran k t
  run_stop k m t h idle = run_on k (m - k) m t (omega arith) ∙ run_idle s.n (rules_of s pts) (pop_of rule) (fair s pts) (pop_of_keeps rule) r (m - k)
      (ran k t) idle

-- ---- the looks keep the invariant
module _ (rule : ℕ) (s : Scene) (pts : List Float) (r : Float) where
  looked_inv : (t : State) → Inv s.n t → Inv s.n (look_under rule s pts r t)
  unfolding next
  looked_inv t inv = go t.frontier refl
    where
      go : (l : List Edge) → t.frontier ≡ l → Inv s.n (look_under rule s pts r t)
      go [] q = subst (λ (l : List Edge). Inv s.n (next (rules_of s pts) (pop_of rule) r l t)) (sym q) inv
      go (x ∷ xs) q = (looked_looked rule s pts r x xs t q inv).inv

  run_inv : (m : ℕ) (t : State) → Inv s.n t → Inv s.n (ran rule s pts r m t)
  unfolding run
  run_inv zero t inv = inv
  run_inv (suc m) t inv = run_inv m (look_under rule s pts r t) (looked_inv t inv)

-- ---- a look leads from one state between two looks to the next
pub record Stepped (s : Scene) (hash : Hash) (pts : List Float) (c : Counts) (r : Counts) (u back : List ℕ) : Type 0 where
  pub between_looks : BetweenLooks s hash pts r u back
  pub one_look : r.looks ≡ c.looks + 1
  pub few : c.looks < 3 * s.n

module _ {s : Scene} {hash : Hash} {pts : List Float} (rule : ℕ) (r : Float) {c : Counts} {w slice : List ℕ} (st : BetweenLooks s hash pts c w slice)
    (some-wait : 0 < c.frontier) where
  pub stepped : {after : Counts} {u back : List ℕ} → LaysState s hash pts (Inv s.n) (look_under rule s pts r) c w slice after u back
      → Stepped s hash pts c after u back
  stepped {after} {u} {back} lays =
      let t = st.state in
      let h = st.holds in
      let x = waiting t.frontier (omega (arith, h.frontier_count)) in
      let m = looked_looked rule s pts r x.first x.others t x.is st.inv in
      let g = lays.takes st.lent t st.inv h in
      record {
        between_looks = record { searchable = lays.searchable; lent = st.lent; state = look_under rule s pts r t; inv = m.inv; holds = g };
        one_look = omega (arith, h.looks, g.looks, m.falls, m.inv.looked, st.inv.looked);
        few = omega (arith, h.looks, h.frontier_count, st.inv.looked, (room s.n t st.inv).faces);
      }

-- ---- the loop: the looks so far were those of the definition
pub record Running (rule : ℕ) (s : Scene) (hash : Hash) (pts : List Float) (r : Float) (c₀ : Counts) (w₀ slice₀ : List ℕ) (c : Counts) (w slice : List ℕ)
    : Type 0 where
  pub between_looks : BetweenLooks s hash pts c w slice
  pub later : c₀.looks ≤ c.looks
  pub lays : LaysState s hash pts (Inv s.n) (run (rules_of s pts) (pop_of rule) r (c.looks - c₀.looks)) c₀ w₀ slice₀ c w slice
  pub face_words : length slice ≡ length slice₀

module _ {rule : ℕ} {s : Scene} {hash : Hash} {pts : List Float} {r : Float} {c₀ : Counts} {w₀ slice₀ : List ℕ} where
  pub run_start : BetweenLooks s hash pts c₀ w₀ slice₀ → Running rule s hash pts r c₀ w₀ slice₀ c₀ w₀ slice₀
  unfolding run
  run_start st =
      let e : 0 ≡ c₀.looks - c₀.looks = omega arith in
      record {
        between_looks = st;
        later = omega arith;
        lays = record {
          takes = λ lent t inv h. subst
              (λ (k : ℕ). HoldsState s.n lent (ran rule s pts r k t) c₀ w₀ slice₀) e h;
          searchable = st.searchable;
          length_same = refl;
        };
        face_words = refl;
      }

  module _ {c : Counts} {w slice : List ℕ} (run : Running rule s hash pts r c₀ w₀ slice₀ c w slice) where
    pub run_step : {after : Counts} {u back : List ℕ} → 0 < c.frontier → LaysState s hash pts (Inv s.n) (look_under rule s pts r) c w slice after u back
        → length back ≡ length slice → Running rule s hash pts r c₀ w₀ slice₀ after u back
    run_step {after} {u} {back} some-wait lays face-long =
        let t = stepped rule r run.between_looks some-wait lays in
        let k : ℕ = c.looks - c₀.looks in
        let e : suc k ≡ after.looks - c₀.looks = omega (arith, t.one_look, run.later) in
        record {
          between_looks = t.between_looks;
          later = omega (arith, t.one_look, run.later);
          lays = record {
            takes = λ lent z inv h. subst (λ (j : ℕ). HoldsState s.n lent (ran rule s pts r j z) after u back) e
                (subst (λ (y : State). HoldsState s.n lent y after u back) (sym (run_more rule s pts r k z))
                (lays.takes lent (ran rule s pts r k z) (run_inv rule s pts r k z inv) (run.lays.takes lent z inv h)));
            searchable = lays.searchable;
            length_same = lays.length_same ∙ run.lays.length_same;
          };
          face_words = face-long ∙ run.face_words;
        }

    pub run_less : {after : Counts} {u back : List ℕ} → 0 < c.frontier → LaysState s hash pts (Inv s.n) (look_under rule s pts r) c w slice after u back
        → 3 * s.n - after.looks < 3 * s.n - c.looks
    run_less {after} {u} {back} some-wait lays = let t = stepped rule r run.between_looks some-wait lays in omega (arith, t.one_look, t.few)

    pub run_end : c.frontier ≤ 0 → LaysState s hash pts (Inv s.n) (ran rule s pts r (3 * s.n)) c₀ w₀ slice₀ c w slice
    run_end none =
        let st = run.between_looks in
        let k : ℕ = c.looks - c₀.looks in
        let few : k ≤ 3 * s.n = omega (arith, st.holds.looks, (room s.n st.state st.inv).looks) in
        record {
          takes = λ lent t inv h.
              let g = run.lays.takes lent t inv h in
              subst (λ (y : State). HoldsState s.n lent y c w slice)
              (sym (run_stop rule s pts r k (3 * s.n) t few (none_waits (ran rule s pts r k t).frontier (omega (arith, g.frontier_count))))) g;
          searchable = run.lays.searchable;
          length_same = run.lays.length_same;
        }
