-- One look at an entry: what its parts ask, and that it is the definition's. Assumes nothing.
use Prim.Native.Nat.{ℕ, ◌<◌}
use mathlib.Core.Path.{◌≡◌, refl, sym, ap, ◌∙◌, subst}
use mathlib.Core.Bool.{Bool, true, false, cond}
use Rattle.std.specs.Prelude.{Some, None}
use mathlib.Core.List.{List, ◌∷◌}
use native.Mathlib.Omega.{arith}
use lib.Ieee.{Float}
use Rattle.lists.specs.Lists.{any}
use Rattle.patch.specs.Lay.{Edge, edge, same, State, popped}
use Rattle.patch.specs.Frontier.{no_edge, waiting_after, pop_of}
use Rattle.patch.specs.Inner.Invariant.{Inv}
use Rattle.patch.proofs.Laying.{room}
use Rattle.spatial_hash.specs.declared.Hash.{Hash}
use Rattle.decisions.specs.declared.Scene.{Scene}
use Rattle.laying_steps.specs.declared.Counts.{Counts}
use Rattle.laying_steps.specs.declared.Entry.{Entry}
use Rattle.regions.specs.Inner.Regions.{used_at, used_in, frontier_end}
use Rattle.laying_words.specs.Inner.Words.{OnlyIn}
use Rattle.laying_steps.specs.Inner.Work.{entry_of, HoldsState, Pops, TellsEntry, FrontierReady}
use Rattle.laying_steps.proofs.Work.{ready}
use Rattle.laying.specs.Inner.Laying.{LayingSearchable, pivot_over, look_under, LaysState, EntryOpened, BetweenLooks, Pivoting}
use Rattle.laying.proofs.Kept.{sized, searchable_same, Waiting, waiting}
use Rattle.laying.proofs.Pivots.{out, entry_below, looked_skip, looked_open}

told_none : (b : Bool) (e : Entry) → None ≡ cond b None (Some e) → b ≡ true
told_none true e h = refl
told_none false e h = cc

told_some : (b : Bool) (f e : Entry) → Some f ≡ cond b None (Some e) → (b ≡ false) × (f ≡ e)
told_some true f e h = cc
told_some false f e h = (refl, cc)

module _ {s : Scene} {hash : Hash} {pts : List Float} (rule : ℕ) (r : Float) {c : Counts} {w slice : List ℕ} (st : BetweenLooks s hash pts c w slice)
    (some-wait : 0 < c.frontier) where
  pub pop_ready : FrontierReady s.n c w
  pop_ready = ready s.n st.lent st.state c w slice (sized st.searchable) st.holds (room s.n st.state st.inv)

  waits : (lent : List ℕ) (t : State) → HoldsState s.n lent t c w slice → Waiting t.frontier
  waits lent t h = waiting t.frontier (omega (arith, h.frontier_count))

  -- an entry was popped
  module _ {word : ℕ} {next : Counts} {u : List ℕ} (pops : Pops (pop_of rule) s.n c w word next u) (only : OnlyIn (used_at s.n) (frontier_end s.n) w u) where
    module _ (lent : List ℕ) (t : State) (inv : Inv s.n t) (h : HoldsState s.n lent t c w slice) where
      abbrev first : Edge
      first = (waits lent t h).first

      abbrev others : List Edge
      others = (waits lent t h).others

      word_is : word ≡ entry_of t.processed first
      word_is = (pops lent slice t first others h (waits lent t h).is).0

      small : (first.v1 < 4096) × (first.v2 < 4096)
      small = let b = entry_below first others t (waits lent t h).is inv in let f = st.searchable.held.few in omega arith

      -- its edge is processed
      skip_is : TellsEntry word None → any (same first) t.processed ≡ true
      skip_is tells = told_none (any (same first) t.processed) _ (tells t.processed first small.0 small.1 word_is)

      -- its word tells the edge
      module _ {entry : Entry} (tells : TellsEntry word (Some entry)) where
        abbrev read : Edge
        read = edge entry.a entry.b

        told : (any (same first) t.processed ≡ false) × (entry ≡ record { a = first.v1; b = first.v2 })
        told = told_some (any (same first) t.processed) entry _ (tells t.processed first small.0 small.1 word_is)

        top_is : read ≡ first
        top_is = ap (λ (e : Entry). edge e.a e.b) told.1

        wait_is : t.frontier ≡ read ∷ others
        wait_is = (waits lent t h).is ∙ ap (λ (e : Edge). e ∷ others) (sym top_is)

        fresh_is : any (same read) t.processed ≡ false
        fresh_is = ap (λ (e : Edge). any (same e) t.processed) top_is ∙ told.0

        abbrev open_state : State
        open_state = popped (waiting_after no_edge rule read others) t

        opened : EntryOpened s.n read open_state
        opened = record {
          before = t;
          inv = inv;
          rest = waiting_after no_edge rule read others;
          out = out rule read others t wait_is;
          fresh = fresh_is;
          left = refl;
        }

        open_holds : HoldsState s.n lent open_state next u slice
        open_holds = (pops lent slice t read others h wait_is).1

    -- no point was used
    popped_used : used_in s.n u ≡ used_in s.n w
    unfolding popped
    popped_used =
        let t = st.state in
        let x = waits st.lent t st.holds in
        (pops st.lent slice t x.first x.others st.holds x.is).1.used ∙ sym st.holds.used

    popped_searchable : LayingSearchable s hash pts u
    popped_searchable = searchable_same u st.searchable only popped_used

    pub skipped : TellsEntry word None → LaysState s hash pts (Inv s.n) (look_under rule s pts r) c w slice next u slice
    skipped tells = record {
      takes = λ lent t inv h. subst (λ (z : State). HoldsState s.n lent z next u slice)
          (sym (looked_skip rule s pts r (first lent t inv h) (others lent t inv h) t (waits lent t h).is (skip_is lent t inv h tells)))
          (pops lent slice t (first lent t inv h) (others lent t inv h) h (waits lent t h).is).1;
      searchable = popped_searchable;
      length_same = only.length_same;
    }

    module _ {entry : Entry} (tells : TellsEntry word (Some entry)) where
      pub pivoting : Pivoting s hash pts next u slice (edge entry.a entry.b)
      pivoting = record {
        searchable = popped_searchable;
        lent = st.lent;
        state = open_state st.lent st.state st.inv st.holds tells;
        opened = opened st.lent st.state st.inv st.holds tells;
        holds = open_holds st.lent st.state st.inv st.holds tells;
      }

      -- it was pivoted over
      pub looked_over : {after : Counts} {v back : List ℕ}
          → LaysState s hash pts (EntryOpened s.n (edge entry.a entry.b)) (pivot_over s pts r (edge entry.a entry.b)) next u slice after v back
          → LaysState s hash pts (Inv s.n) (look_under rule s pts r) c w slice after v back
      looked_over {after} {v} {back} lays = record {
        takes = λ lent t inv h. subst (λ (z : State). HoldsState s.n lent z after v back)
            (sym (looked_open rule s pts r (edge entry.a entry.b) (others lent t inv h) t (wait_is lent t inv h tells) (fresh_is lent t inv h tells)))
            (lays.takes lent (open_state lent t inv h tells) (opened lent t inv h tells) (open_holds lent t inv h tells));
        searchable = lays.searchable;
        length_same = lays.length_same ∙ only.length_same;
      }
