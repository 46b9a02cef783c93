-- What each part of a step does to the state that the slices and the counts hold. Assumes nothing.
use Prim.Native.Nat.{ℕ, zero, suc, ◌+◌, ◌-◌, ◌*◌, ◌<◌}
use mathlib.Core.Path.{◌≡◌, refl, sym, ap, ap₂, ◌∙◌}
use mathlib.Core.Logic.{⊎_elim, ◌≢◌}
use mathlib.Core.Bool.{Bool, true, false}
use mathlib.Core.List.{List, [], ◌∷◌, ◌++◌, map}
use mathlib.Core.Option.{some}
use native.Mathlib.Omega.{arith}
use lib.Dec.{eqb}
use borrow.Author.Tests.{eqb-true}
use lib.ListN.{length, get_or, take, drop, replicate, length-append}
use lib.Seq.{get_or-take, get_or-drop, drop-drop}
use Rattle.lists.specs.Lists.{bit, count}
use Rattle.patch.specs.Lay.{Edge, edge, Face, face, edges_of, State, push, marked, with_face, cleared, popped, met, seeded, pivoted}
use Rattle.patch.specs.Frontier.{no_edge, after_pop, heap_of, queue_of, waiting_after, pop_of}
use Rattle.lists.proofs.Bools.{either}
use Rattle.lists.proofs.Counts.{count_append, count_all}
use Rattle.patch.proofs.Pops.{heap_of_keeps}
use Rattle.patch.proofs.Laying.{Room as Fits}
use Rattle.patch.proofs.View.{map_after_pop, written_none}
use Rattle.laying_steps.specs.declared.Counts.{Counts}
use Rattle.regions.specs.Inner.Regions.{used_in}
use Rattle.laying_words.specs.Inner.Words.{entries_in, flag, words_of, WordsSized, OnlyIn, Taken, Pushed, WordsMarked, WroteFace}
use Rattle.laying_steps.specs.Inner.Work.{entry_of, HoldsState, Takes, Begins, Clears, Pops, Open, NoneProcessed, Misses, FrontierReady}
use Rattle.laying_words.proofs.Slices.{before_same, after_same, only_wider, only_both}
use Rattle.laying_steps.proofs.Flags.{entries_kept, Fresh, fresh_pushed, fresh_words, seed_fresh, pivot_fresh}

pub begin_holds : (n : ℕ) (u : List ℕ) → used_in n u ≡ replicate n 0 → Begins n (record {
  faces =
      0;
  seeds = 0;
  first = 0;
  frontier = 0;
  looks = 0;
  pivots = 0;
}) u
begin_holds n u h lent = record {
  faces_count = refl;
  seeds_count = refl;
  frontier_count = refl;
  looks = refl;
  pivots = refl;
  used = h;
  frontier = refl;
  first_most = omega arith;
  faces = sym (written_none lent);
}

pub clear_takes : (c : Counts) → Clears c (record { faces = c.faces; seeds = c.seeds; first = 0; frontier = 0; looks = c.looks; pivots = c.pivots })
unfolding cleared
clear_takes c = (
  refl,
  λ n w slice lent s h. record {
    faces_count = h.faces_count;
    seeds_count = h.seeds_count;
    frontier_count = refl;
    looks = h.looks;
    pivots = h.pivots;
    used = h.used;
    frontier = refl;
    first_most = omega arith;
    faces = h.faces;
  },
)

length_after_pop : (x : Edge) (xs : List Edge) → length (after_pop no_edge (x ∷ xs)) ≡ length xs
length_after_pop x xs = let k = heap_of_keeps x xs (λ e. true) in omega (arith, count_all xs, count_all (after_pop no_edge (x ∷ xs)))

pub pop_takes : (n : ℕ) (c : Counts) (w u : List ℕ) (entry : ℕ) → Taken n c.first c.frontier w u entry
    → Pops heap_of n c w entry
    (record { faces = c.faces; seeds = c.seeds; first = c.first; frontier = c.frontier - 1; looks = c.looks + 1; pivots = c.pivots }) u
unfolding popped
pop_takes n c w u entry t lent slice s x xs h wait =
    let words : entries_in n c.first c.frontier w
    ≡ map (entry_of s.processed) (x ∷ xs) = h.frontier ∙ ap (λ (l : List Edge). map (entry_of s.processed) l) wait in (
      t.top ∙ ap (λ (l : List ℕ). get_or l 0 0) words,
      record {
        faces_count = h.faces_count;
        seeds_count = h.seeds_count;
        frontier_count = omega (arith, h.frontier_count, ap length wait, length_after_pop x xs);
        looks = omega (arith, h.looks);
        pivots = h.pivots;
        used = before_same t.only (5 * n) n (omega arith) ∙ h.used;
        frontier = t.rest ∙ ap (λ (l : List ℕ). after_pop 0 l) words ∙ sym (map_after_pop (entry_of s.processed) no_edge 0 (x ∷ xs));
        first_most = omega (arith, h.first_most);
        faces = h.faces;
      },
    )

next : (k : ℕ) (l : List ℕ) (y : ℕ) (ys : List ℕ) → take (suc k) l ≡ y ∷ ys → take k (drop 1 l) ≡ ys
next k [] y ys e = absurd (omega (arith, ap length e))
next k (x ∷ l) y ys e = ap (λ (m : List ℕ). drop 1 m) e

-- the words after the first of those from `at` on
drop_next : (k at : ℕ) (w : List ℕ) (y : ℕ) (ys : List ℕ) → take k (drop at w) ≡ y ∷ ys → take (k - 1) (drop (at + 1) w) ≡ ys
drop_next zero at w y ys e = absurd (omega (arith, ap length e))
drop_next (suc k) at w y ys e =
    let less : suc k - 1 ≡ k = omega arith in
    ap₂ (λ (m : ℕ) (l : List ℕ). take m l) less (sym (drop-drop 1 at w)) ∙ next k (drop at w) y ys e

pub queue_takes : (n : ℕ) (c : Counts) (w : List ℕ) (entry : ℕ) → 0 < c.frontier → entry ≡ get_or w (6 * n + c.first) 0
    → Pops queue_of n c w entry
    (record { faces = c.faces; seeds = c.seeds; first = c.first + 1; frontier = c.frontier - 1; looks = c.looks + 1; pivots = c.pivots }) w
unfolding popped
queue_takes n c w entry some-wait top lent slice s x xs h wait =
    let words : entries_in n c.first c.frontier w
    ≡ map (entry_of s.processed) (x ∷ xs) = h.frontier ∙ ap (λ (l : List Edge). map (entry_of s.processed) l) wait in
    let none : 6 * n + c.first + 0 ≡ 6 * n + c.first = omega arith in
    let further-on : 6 * n + (c.first + 1) ≡ 6 * n + c.first + 1 = omega arith in (
      top ∙ sym (get_or-drop (6 * n + c.first) w 0 0 ∙ ap (λ (i : ℕ). get_or w i 0) none) ∙ sym
          (get_or-take c.frontier (drop (6 * n + c.first) w) 0 0 some-wait) ∙ ap (λ (l : List ℕ). get_or l 0 0) words,
      record {
        faces_count = h.faces_count;
        seeds_count = h.seeds_count;
        frontier_count = omega (arith, h.frontier_count, ap length wait);
        looks = omega (arith, h.looks);
        pivots = h.pivots;
        used = h.used;
        frontier = ap (λ (i : ℕ). take (c.frontier - 1) (drop i w)) further-on ∙ drop_next c.frontier (6 * n + c.first) w (entry_of s.processed x)
            (map (entry_of s.processed) xs) words;
        first_most = omega (arith, h.first_most);
        faces = h.faces;
      },
    )

-- which of the two a rule asks for
module _ {n : ℕ} {c : Counts} {w u : List ℕ} {entry : ℕ} {r : Counts} (rule : ℕ) where
  pub by_queue : rule ≡ 2 → Pops queue_of n c w entry r u → Pops (pop_of rule) n c w entry r u
  unfolding waiting_after
  by_queue h p = rw h p

  pub by_heap : rule ≢ 2 → Pops heap_of n c w entry r u → Pops (pop_of rule) n c w entry r u
  unfolding waiting_after
  by_heap h p = ⊎_elim (λ (t : eqb rule 2 ≡ true). absurd (h (eqb-true rule 2 t))) (λ (t : eqb rule 2 ≡ false). rw t p) (either (eqb rule 2))

pub miss_takes : (c : Counts) → Misses c (record {
  faces =
      c.faces;
  seeds = c.seeds;
  first = c.first;
  frontier = c.frontier;
  looks = c.looks;
  pivots = c.pivots + 1;
})
unfolding pivoted
miss_takes c n w slice lent e s a h = record {
  faces_count = h.faces_count;
  seeds_count = h.seeds_count;
  frontier_count = h.frontier_count;
  looks = h.looks;
  pivots = omega (arith, h.pivots);
  used = h.used;
  frontier = h.frontier ∙ sym (entries_kept s.processed e s.frontier a.none_waits);
  first_most = h.first_most;
  faces = h.faces;
}

-- a face is laid, as a seed or not: written, its free points ks marked, its edges pushed; `processed` are the processed
-- edges then
module _ (n : ℕ) (c : Counts) (w w1 w2 slice back : List ℕ) (seed : Bool) (ks : List ℕ) (f : Face) (mark seeds pivots : ℕ)
    (wrote : WroteFace c.faces f slice back) (m : WordsMarked n ks w w1) (p : Pushed n (c.first + c.frontier) (words_of mark f) w1 w2)
    (more : seeds ≡ c.seeds + bit seed) where
  face_holds : (lent : List ℕ) (s : State) (processed : List Edge) (pivots' : ℕ) → pivots ≡ pivots' → Fresh s processed mark f → HoldsState n lent s c w slice
      → HoldsState n lent (record {
        faces = s.faces ++ (f ∷ []);
        seed_flags = s.seed_flags
            ++ (seed ∷ []);
        used = marked s.used ks;
        frontier = push s.processed s.frontier
            (edges_of f);
        processed = processed;
        looks = s.looks;
        pivots = pivots';
      })
      (record { faces = c.faces + 1; seeds = seeds; first = c.first; frontier = c.frontier + 3; looks = c.looks; pivots = pivots }) w2 back
  face_holds lent s processed pivots' same-pivots fresh h =
      let all = fresh_pushed fresh in
      let waiting : entries_in n c.first c.frontier w1
      ≡ map (entry_of s.processed) s.frontier = after_same m.only (6 * n + c.first) c.frontier (omega arith) ∙ h.frontier in
      record {
        faces_count = omega (arith, h.faces_count, length-append s.faces (f ∷ []));
        seeds_count = omega (arith, h.seeds_count, count_append (λ (b : Bool). b) s.seed_flags (seed ∷ []));
        frontier_count = omega (arith, h.frontier_count, ap length all, length-append s.frontier (edges_of f));
        looks = h.looks;
        pivots = same-pivots;
        used = before_same p.only (5 * n) n (omega arith) ∙ m.flags ∙ ap (λ (l : List ℕ). marked l ks) h.used;
        frontier = p.entries c.first c.frontier refl ∙ ap (λ (l : List ℕ). l ++ words_of mark f) waiting ∙ sym
            (ap (λ (l : List Edge). map (entry_of processed) l) all ∙ fresh_words fresh);
        first_most = h.first_most;
        faces = wrote lent s.faces (sym h.faces_count) h.faces;
      }

-- only the used points' flags and the entries change
pub face_only : (n count : ℕ) (ks words w w1 w2 : List ℕ) → WordsMarked n ks w w1 → Pushed n count words w1 w2 → OnlyIn (5 * n) (9 * n) w w2
face_only n count ks words w w1 w2 m p =
    only_both (only_wider (5 * n) (9 * n) (omega arith) (omega arith) m.only) (only_wider (5 * n) (9 * n) (omega arith) (omega arith) p.only)

module _ (n : ℕ) (c : Counts) (w w1 w2 slice back : List ℕ) (a b k : ℕ) (wrote : WroteFace c.faces (face a b k) slice back) where
  pub pivot_takes : WordsMarked n (k ∷ []) w w1 → Pushed n (c.first + c.frontier) (words_of flag (face a b k)) w1 w2
      → Takes n (Open (edge a b) k) (λ s. pivoted (edge a b) (met (edge a b) (some k) s)) c w slice
      (record { faces = c.faces + 1; seeds = c.seeds; first = c.first; frontier = c.frontier + 3; looks = c.looks; pivots = c.pivots + 1 }) w2 back
  unfolding pivoted met with_face
  pivot_takes m p lent s o h =
      face_holds n c w w1 w2 slice back false (k ∷ []) (face a b k) flag c.seeds (c.pivots + 1) wrote m p (omega arith) lent s
      (s.processed ++ (edge a b ∷ [])) (suc s.pivots) (omega (arith, h.pivots)) (pivot_fresh (edge a b) k s o) h

  pub seed_takes : WordsMarked n (a ∷ b ∷ k ∷ []) w w1 → Pushed n (c.first + c.frontier) (words_of 0 (face a b k)) w1 w2
      → Takes n NoneProcessed (seeded (a, b, k)) c w slice
      (record { faces = c.faces + 1; seeds = c.seeds + 1; first = c.first; frontier = c.frontier + 3; looks = c.looks; pivots = c.pivots }) w2 back
  unfolding seeded with_face
  seed_takes m p lent s none h =
      face_holds n c w w1 w2 slice back true (a ∷ b ∷ k ∷ []) (face a b k) 0 (c.seeds + 1) c.pivots wrote m p refl lent s s.processed s.pivots
      h.pivots (seed_fresh s (face a b k) none) h

-- ---- what the code asks, of a state between two looks
pub ready : (n : ℕ) (lent : List ℕ) (s : State) (c : Counts) (w slice : List ℕ) → WordsSized n w → HoldsState n lent s c w slice → Fits n s
    → FrontierReady n c w
ready n lent s c w slice sized h fits = record {
  sized = sized;
  faces = omega (arith, h.faces_count, fits.faces);
  seeds = omega (arith, h.seeds_count, fits.faces);
  frontier = omega (arith, h.frontier_count, h.first_most, h.looks, fits.entries);
  looks = omega (arith, h.looks, fits.looks);
  pivots = omega (arith, h.pivots, fits.pivots);
}
