-- The words of entries: what they tell, and that they stay right as edges are pushed and processed. Assumes nothing.
use Prim.Native.Nat.{ℕ, ◌+◌, ◌*◌}
use mathlib.Core.Path.{◌≡◌, refl, ap, ap₂, ◌∙◌}
use mathlib.Core.Bool.{Bool, true, false}
use mathlib.Core.List.{List, [], ◌∷◌, ◌++◌, map, map-append, append_assoc}
use native.Mathlib.Omega.{arith}
use lib.Dec.{ltb}
use Rattle.lists.specs.Lists.{bit, count, any}
use Rattle.patch.specs.Lay.{Edge, edge, same, Face, face, edges_of, State, push}
use Rattle.patch.specs.Inner.Entries.{encode}
use Rattle.lists.proofs.Bools.{not-true}
use Rattle.lists.proofs.Counts.{any_false, true_any, false_any, count_append}
use Rattle.patch.proofs.Edges.{same_key, same_refl, same_false}
use Rattle.laying_words.specs.Inner.Words.{flag, words_of}
use Rattle.laying_steps.specs.Inner.Work.{entry_of, Open, NoneProcessed}

-- ---- one word
word_plain : (processed : List Edge) (e : Edge) → any (same e) processed ≡ false → entry_of processed e ≡ encode e + 0
word_plain processed e h = let z : bit (any (same e) processed) ≡ 0 = ap bit h in omega arith

word_flagged : (processed : List Edge) (e : Edge) → any (same e) processed ≡ true → entry_of processed e ≡ encode e + flag
word_flagged processed e h = let o : bit (any (same e) processed) ≡ 1 = ap bit h in omega arith

-- ---- one more processed edge
any_other : (processed : List Edge) (e f : Edge) → same f e ≡ false → any (same f) (processed ++ (e ∷ [])) ≡ any (same f) processed
unfolding any
any_other processed e f h =
    let z : bit (same f e) ≡ 0 = ap bit h in
    let q : count (same f) (processed ++ (e ∷ [])) ≡ count (same f) processed = omega (arith, count_append (same f) processed (e ∷ [])) in
    ap (λ (m : ℕ). ltb 0 m) q

any_last : (processed : List Edge) (e : Edge) → any (same e) (processed ++ (e ∷ [])) ≡ true
any_last processed e = true_any (same e) (processed ++ (e ∷ [])) (omega (arith, count_append (same e) processed (e ∷ []), ap bit (same_refl e)))

-- the words of other edges stay
pub entries_kept : (processed : List Edge) (e : Edge) (fs : List Edge) → any (same e) fs ≡ false → map (entry_of (processed ++ (e ∷ []))) fs
    ≡ map (entry_of processed) fs
entries_kept processed e fs none = go fs (any_false (same e) fs none)
  where
    go : (gs : List Edge) → count (same e) gs ≡ 0 → map (entry_of (processed ++ (e ∷ []))) gs ≡ map (entry_of processed) gs
    go [] z = refl
    go (g ∷ gs) z =
        let other : same g e ≡ false = same_false e g (not-true (λ (t : same e g ≡ true). let o : bit (same e g) ≡ 1 = ap bit t in omega arith)) in
        ap₂ (λ (x : ℕ) (xs : List ℕ). x ∷ xs) (ap (λ (b : Bool). encode g + bit b * flag) (any_other processed e g other)) (go gs (omega arith))

-- ---- the three edges of a face

-- none of them was processed, and once the processed edges are those given, their words are as pushed and the others
-- stay
pub record Fresh (s : State) (processed : List Edge) (mark : ℕ) (f : Face) : Type 0 where
  pub first : any (same (edge f.a f.b)) s.processed ≡ false
  pub second : any (same (edge f.b f.c)) s.processed ≡ false
  pub third : any (same (edge f.c f.a)) s.processed ≡ false
  pub words : map (entry_of processed) (edges_of f) ≡ words_of mark f
  pub others : map (entry_of processed) s.frontier ≡ map (entry_of s.processed) s.frontier

module _ {s : State} {processed : List Edge} {mark : ℕ} {f : Face} (fresh : Fresh s processed mark f) where
  pub fresh_pushed : push s.processed s.frontier (edges_of f) ≡ s.frontier ++ edges_of f
  unfolding push
  fresh_pushed =
      rw (fresh.first, fresh.second, fresh.third)
      (append_assoc (s.frontier ++ (edge f.a f.b ∷ [])) (edge f.b f.c ∷ []) (edge f.c f.a ∷ []) ∙ append_assoc s.frontier
      (edge f.a f.b ∷ []) (edge f.b f.c ∷ edge f.c f.a ∷ []))

  pub fresh_words : map (entry_of processed) (s.frontier ++ edges_of f) ≡ map (entry_of s.processed) s.frontier ++ words_of mark f
  fresh_words = map-append (entry_of processed) s.frontier (edges_of f) ∙ ap₂ (λ (x y : List ℕ). x ++ y) fresh.others fresh.words

three : {x y z x' y' z' : ℕ} → x ≡ x' → y ≡ y' → z ≡ z' → ◌≡◌ {A = List ℕ} (x ∷ y ∷ z ∷ []) (x' ∷ y' ∷ z' ∷ [])
three p q r = cc

pub seed_fresh : (s : State) (f : Face) → NoneProcessed s → Fresh s s.processed 0 f
seed_fresh s f none =
    let unseen : (e : Edge) → any (same e) s.processed ≡ false = λ e. false_any (same e) s.processed (ap (λ (l : List Edge). count (same e) l) none) in
    let plain : (e : Edge) → entry_of s.processed e ≡ encode e + 0 = λ e. word_plain s.processed e (unseen e) in
    record {
      first = unseen (edge f.a f.b);
      second = unseen (edge f.b f.c);
      third = unseen (edge f.c f.a);
      words = three (plain (edge f.a f.b)) (plain (edge f.b f.c)) (plain (edge f.c f.a));
      others = refl;
    }

pub pivot_fresh : (e : Edge) (k : ℕ) (s : State) → Open e k s → Fresh s (s.processed ++ (e ∷ [])) flag (face e.v1 e.v2 k)
pivot_fresh e k s o =
    let all : List Edge = s.processed ++ (e ∷ []) in
    let second : any (same (edge e.v2 k)) all
    ≡ false = any_other s.processed e (edge e.v2 k)
    (not-true (λ (t : same (edge e.v2 k) e ≡ true). let q = same_key (edge e.v2 k) e t in o.not_first
    (omega (arith, q.low, q.high)))) ∙ o.second in
    let third : any (same (edge k e.v1)) all
    ≡ false = any_other s.processed e (edge k e.v1)
    (not-true (λ (t : same (edge k e.v1) e ≡ true). let q = same_key (edge k e.v1) e t in o.not_second
    (omega (arith, q.low, q.high)))) ∙ o.third in
    record {
      first = o.alone.unprocessed;
      second = o.second;
      third = o.third;
      words = three (word_flagged all e (any_last s.processed e)) (word_plain all (edge e.v2 k) second) (word_plain all (edge k e.v1) third);
      others = entries_kept s.processed e s.frontier o.alone.none_waits;
    }
