-- The best of several points in any order is the definition's, which looks through them in their order: the best one
-- has the highest score, and of those with that score it comes first, which settles it (`unique`). Assumes nothing.
use Prim.Native.Nat.{ℕ, ◌+◌}
use mathlib.Core.Path.{◌≡◌, refl, sym, ap, ◌∙◌, subst}
use mathlib.Core.Logic.{⊎_elim}
use mathlib.Core.Bool.{Bool, true, false, cond, ◌&&◌, ◌||◌}
use mathlib.Core.List.{List, [], ◌∷◌}
use mathlib.Core.Option.{Option, none, some}
use native.Mathlib.Omega.{arith}
use lib.Dec.{T, eqb}
use lib.Ieee.{Float, lt, le}
use lib.Ieee.Bits.{is_true}
use Rattle.std.specs.Prelude.{Option as Outcome, Some, None}
use Rattle.lists.specs.Inner.Found.{option_found}
use Rattle.numbers.specs.Rounded.{f32}
use Rattle.numbers.proofs.OrderLaws.{le_right, lt_le, le_or_lt, le_not_lt, le_trans, lt_le_trans, le_lt_trans}
use Rattle.lists.specs.Lists.{count}
use Rattle.patch.specs.Lay.{Edge}
use Rattle.patch.specs.Search.{Floats, score_of, best_of}
use Rattle.lists.proofs.Bools.{either, not-true, true_not_false, and_both, and_false}
use Rattle.decisions.specs.Found.{at_least}
use Rattle.lists.specs.Members.{only, In}
use Rattle.lists.proofs.Members.{in_head, in_cases}
use Rattle.nearby.proofs.Ordered.{Strict, Sorted}
use Rattle.pivot.specs.Inner.Best.{is_before_best, score_ahead, leader}
use Rattle.pivot.proofs.Laws.{above, after, best_step, best_end}

holds : {b : Bool} → b ≡ true → T b
holds e = subst T (sym e) tt

or_false : (b : Bool) → (b || false) ≡ b
or_false true = refl
or_false false = refl

lt_self : (x : Float) → lt x x ≡ false
lt_self x = not-true (λ e. le_not_lt x x (lt_le x x (holds e)) (holds e))

-- ---- one point
module _ (less : ℕ → ℕ → Bool) (top : Float) (best : Option ℕ) (k : ℕ) where
  -- who becomes the best has a score that is not below, and one above or an earlier place
  ahead_parts : (o : Option Float) (x : Float) → score_ahead less top best k o ≡ some x → (o ≡ some x)
      × ((le top x ≡ true) × ((lt top x || is_before_best less k best) ≡ true))
  unfolding score_ahead
  ahead_parts none x h = absurd (let z : ◌≡◌ {A = ℕ} 0 1 = cc in omega arith)
  ahead_parts (some y) x h = go (le top y && (lt top y || is_before_best less k best)) refl h
    where
      go : (t : Bool) → (le top y && (lt top y || is_before_best less k best)) ≡ t → cond t (some y) none ≡ some x → (some y ≡ some x)
          × ((le top x ≡ true) × ((lt top x || is_before_best less k best) ≡ true))
      go true e h =
          let q : y ≡ x = cc in
          let b = and_both {p = le top y} e in
          (h, subst (λ (z : Float). (le top z ≡ true) × ((lt top z || is_before_best less k best) ≡ true)) q (b.0, b.1))
      go false e h = absurd (let z : ◌≡◌ {A = ℕ} 0 1 = cc in omega arith)

  -- who doesn't, though not below, has neither
  behind_parts : (x : Float) → score_ahead less top best k (some x) ≡ none → le top x ≡ true → (lt top x ≡ false) × (is_before_best less k best ≡ false)
  unfolding score_ahead
  behind_parts x h g = go (le top x) g (lt top x) refl (is_before_best less k best) refl h
    where
      go : (l : Bool) → l ≡ true → (t : Bool) → lt top x ≡ t → (b : Bool) → is_before_best less k best ≡ b → cond (l && (t || b)) (some x) none ≡ none
          → (lt top x ≡ false) × (is_before_best less k best ≡ false)
      go true e false p false q h = (p, q)
      go true e false p true q h = absurd (let z : ◌≡◌ {A = ℕ} 0 1 = cc in omega arith)
      go true e true p b q h = absurd (let z : ◌≡◌ {A = ℕ} 0 1 = cc in omega arith)
      go false e t p b q h = absurd (true_not_false e refl)

  not_ahead : (o : Option Float) → ((x : Float) → o ≡ some x → (le top x && (lt top x || is_before_best less k best)) ≡ false) → score_ahead less top best k o
      ≡ none
  unfolding score_ahead
  not_ahead none h = refl
  not_ahead (some x) h = rw (h x refl)

  -- only if its cell is near enough
  ahead_near : (near : Bool) (z : Option Float) → (near ≡ true → score_ahead less top best k z ≡ none) → None
      ≡ option_found (score_ahead less top best k (cond near z none))
  unfolding score_ahead
  ahead_near true z h = ap option_found (sym (h refl))
  ahead_near false z h = refl

-- ---- a score that the code finds
at_least_lem : (top : Float) (z : Option Float) (x : Float) → option_found (at_least top z) ≡ Some x → (z ≡ some x) × (le top x ≡ true)
unfolding at_least
at_least_lem top none x h = absurd (let z : ◌≡◌ {A = ℕ} 0 1 = cc in omega arith)
at_least_lem top (some y) x h = go (le top y) refl h
  where
    go : (t : Bool) → le top y ≡ t → option_found (cond t (some y) none) ≡ Some x → (some y ≡ some x) × (le top x ≡ true)
    go true q h = let i : y ≡ x = cc in (ap some i, ap (le top) (sym i) ∙ q)
    go false q h = absurd (let z : ◌≡◌ {A = ℕ} 0 1 = cc in omega arith)

below : (top : Float) (z : Option Float) → option_found (at_least top z) ≡ None → (x : Float) → z ≡ some x → le top x ≡ false
unfolding at_least
below top none h x q = absurd (let z : ◌≡◌ {A = ℕ} 0 1 = cc in omega arith)
below top (some y) h x q = let i : y ≡ x = cc in ap (le top) (sym i) ∙ go (le top y) h
  where
    go : (t : Bool) → option_found (cond t (some y) none) ≡ None → t ≡ false
    go true h = absurd (let z : ◌≡◌ {A = ℕ} 0 1 = cc in omega arith)
    go false h = refl

module _ (less : ℕ → ℕ → Bool) (top : Float) (best : Option ℕ) (k : ℕ) (near : Bool) (z : Option Float)
    {o : Outcome Float} (e : o ≡ option_found (at_least top z)) where
  pub found_low : o ≡ None → None ≡ option_found (score_ahead less top best k (cond near z none))
  found_low h = ahead_near less top best k near z (λ n. not_ahead less top best k z (λ x q. rw (below top z (sym e ∙ h) x q)))

  module _ {x : Float} {b : Bool} (h : o ≡ Some x) (t : b ≡ (near && (lt top x || is_before_best less k best))) where
    pub found_behind : b ≡ false → None ≡ option_found (score_ahead less top best k (cond near z none))
    found_behind g = ahead_near less top best k near z (λ n. not_ahead less top best k z (λ y i.
        let j : x ≡ y = same (sym (at_least_lem top z x (sym e ∙ h)).0 ∙ i) in
        subst (λ (v : Float). (le top v && (lt top v || is_before_best less k best)) ≡ false) j (rw (behind n) (and_false (le top x)))))
      where
        same : {y : Float} → some x ≡ some y → x ≡ y
        same e = cc

        behind : near ≡ true → (lt top x || is_before_best less k best) ≡ false
        behind n = ap (λ (m : Bool). m && (lt top x || is_before_best less k best)) (sym n) ∙ sym t ∙ g

    pub found_ahead : b ≡ true → Some x ≡ option_found (score_ahead less top best k (cond near z none))
    unfolding score_ahead
    found_ahead g =
        let p = and_both {p = near} (sym t ∙ g) in
        let q = at_least_lem top z x (sym e ∙ h) in
        rw (p.0, q.0, q.1, p.1)

-- ---- one after the other
module _ {less : ℕ → ℕ → Bool} (strict : Strict less) where
  -- whoever is behind the best so far is so behind the next one
  overtaken : (top x : Float) (best : Option ℕ) (k j : ℕ) (o : Option Float) → le top x ≡ true → (lt top x || is_before_best less k best) ≡ true
      → score_ahead less top best j o ≡ none → score_ahead less x (some k) j o ≡ none
  overtaken top x best k j o l b h = not_ahead less x (some k) j o (λ y q. not-true (λ t.
      let p = and_both {p = le x y} t in
      let m = behind_parts less top best j y (ap (score_ahead less top best j) (sym q) ∙ h) (is_true (le top y) (le_trans top x y (holds l) (holds p.0))) in
      ⊎_elim
      (λ (v : lt x y ≡ true). true_not_false (is_true (lt top y) (le_lt_trans top x y (holds l) (holds v))) m.0)
      (λ (v : lt x y ≡ false). ⊎_elim
      (λ (u : lt top x ≡ true). true_not_false (is_true (lt top y) (lt_le_trans top x y (holds u) (holds p.0))) m.0)
      (λ (u : lt top x ≡ false). earlier_yet best (rw (u) at b) (rw (v) at p).1 m.1)
      (either (lt top x)))
      (either (lt x y))))
    where
      earlier_yet : (best : Option ℕ) → is_before_best less k best ≡ true → less j k ≡ true → is_before_best less j best ≡ false → ⊥
      earlier_yet none a b c = true_not_false a refl
      earlier_yet (some i) a b c = true_not_false (strict.transitive j k i b a) c

  module _ (score : ℕ → Option Float) where
    -- the best one is among the points that were seen, and its score is above 0
    abbrev Own : List ℕ → Float → Option ℕ → Type 0
    Own seen top none = top ≡ f32 0
    Own seen top (some j) = In j seen × ((score j ≡ some top) × T (lt (f32 0) top))

    -- of the points that were seen none comes before the best one
    record Wins (seen : List ℕ) (top : Float) (best : Option ℕ) : Type 0 where
      behind : (k : ℕ) → In k seen → score_ahead less top best k (score k) ≡ none
      own : Own seen top best

    -- the best of the points that were seen and of ks
    record Leads (seen ks : List ℕ) (best : Option ℕ) : Type 0 where
      all : List ℕ
      same : (k : ℕ) → count (eqb k) all ≡ count (eqb k) seen + count (eqb k) ks
      top : Float
      wins : Wins all top best

    skipped : (seen : List ℕ) (top : Float) (best : Option ℕ) (k : ℕ) → Wins seen top best → score_ahead less top best k (score k) ≡ none
        → Wins (k ∷ seen) top best
    skipped seen top best k w q = record { behind = in_cases (λ j. score_ahead less top best j (score j) ≡ none) k seen q w.behind; own = more best w.own }
      where
        more : (best : Option ℕ) → Own seen top best → Own (k ∷ seen) top best
        more none o = o
        more (some j) o = (let i = o.0 in omega arith, o.1)

    taken : (seen : List ℕ) (top x : Float) (best : Option ℕ) (k : ℕ) → Wins seen top best → score_ahead less top best k (score k) ≡ some x
        → Wins (k ∷ seen) x (some k)
    taken seen top x best k w q = record {
      behind = in_cases (λ j. score_ahead less x (some k) j (score j) ≡ none) k seen
          (ap (score_ahead less x (some k) k) p.0 ∙ not_ahead less x (some k) k (some x)
          (λ y i. let e : x ≡ y = cc in subst (λ (v : Float). (le x v && (lt x v || less k k)) ≡ false) e
          (rw (lt_self x, strict.irreflexive k) (and_false (le x x)))))
          (λ j h. overtaken top x best k j (score j) p.1.0 p.1.1 (w.behind j h));
      own = (in_head k seen, (p.0, positive best w.own p.1.1));
    }
      where
        p : (score k ≡ some x) × ((le top x ≡ true) × ((lt top x || is_before_best less k best) ≡ true))
        p = ahead_parts less top best k (score k) x q

        positive : (best : Option ℕ) → Own seen top best → (lt top x || is_before_best less k best) ≡ true → T (lt (f32 0) x)
        positive none e b = subst (λ (z : Float). T (lt z x)) e (holds (sym (or_false (lt top x)) ∙ b))
        positive (some j) o b = lt_le_trans (f32 0) top x o.1.1 (holds p.1.0)

    leader_leads : (ks seen : List ℕ) (top : Float) (best : Option ℕ) → Wins seen top best → Leads seen ks (leader less score ks top best)
    unfolding leader
    leader_leads [] seen top best w = record { all = seen; same = λ k. omega arith; top = top; wins = w }
    leader_leads (k ∷ ks) seen top best w = go (score_ahead less top best k (score k)) refl (leader_leads ks (k ∷ seen))
      where
        more : {b : Option ℕ} → Leads (k ∷ seen) ks b → Leads seen (k ∷ ks) b
        more l = record { all = l.all; same = λ j. let s = l.same j in omega arith; top = l.top; wins = l.wins }

        go : (o : Option Float) → score_ahead less top best k (score k) ≡ o
            → ((t : Float) (b : Option ℕ) → Wins (k ∷ seen) t b → Leads (k ∷ seen) ks (leader less score ks t b))
            → Leads seen (k ∷ ks) (elim o as (λ c. Option ℕ) [ none ↦ leader less score ks top best | some x ↦ leader less score ks x (some k) ])
        go none q ih = more (ih top best (skipped seen top best k w q))
        go (some x) q ih = more (ih x (some k) (taken seen top x best k w q))

    -- a point with a score that is not below has neither a score above nor an earlier place
    beaten : {seen : List ℕ} {top : Float} {best : Option ℕ} → Wins seen top best → (j : ℕ) (y : Float) → In j seen → score j ≡ some y → T (le top y)
        → (lt top y ≡ false) × (is_before_best less j best ≡ false)
    beaten {top = top} {best = best} w j y i q l = behind_parts less top best j y (ap (score_ahead less top best j) (sym q) ∙ w.behind j i)
        (is_true (le top y) l)

    -- if the points with scores are the same, the best one is
    unique : {s t : List ℕ} {x y : Float} (a b : Option ℕ) → Wins s x a → Wins t y b → ((k : ℕ) (z : Float) → score k ≡ some z → In k s → In k t)
        → ((k : ℕ) (z : Float) → score k ≡ some z → In k t → In k s) → a ≡ b
    unique none none w v f g = refl
    unique {s} {t} {x} {y} none (some j) w v f g = absurd (nothing w v.own)
      where
        nothing : Wins s x none → Own t y (some j) → ⊥
        nothing w o =
            let l : T (lt x y) = subst (λ (z : Float). T (lt z y)) (sym w.own) o.1.1 in
            true_not_false (is_true (lt x y) l) (beaten w j y (g j y o.1.0 o.0) o.1.0 (lt_le x y l)).0
    unique {s} {t} {x} {y} (some i) none w v f g = absurd (nothing v w.own)
      where
        nothing : Wins t y none → Own s x (some i) → ⊥
        nothing v o =
            let l : T (lt y x) = subst (λ (z : Float). T (lt z x)) (sym v.own) o.1.1 in
            true_not_false (is_true (lt y x) l) (beaten v i x (f i x o.1.0 o.0) o.1.0 (lt_le y x l)).0
    unique {x = x} {y = y} (some i) (some j) w v f g =
        let o = w.own in
        let p = v.own in
        let here = beaten w j y (g j y p.1.0 p.0) p.1.0 in
        let there = beaten v i x (f i x o.1.0 o.0) o.1.0 in
        let m = le_right (f32 0) x (lt_le (f32 0) x o.1.1) in
        let n = le_right (f32 0) y (lt_le (f32 0) y p.1.1) in
        let xy : T (le x y) = ⊎_elim (λ (l : T (le x y)). l) (λ (l : T (lt y x)). absurd (true_not_false (is_true (lt y x) l) (there (lt_le y x l)).0))
        (le_or_lt x y m n) in
        let yx : T (le y x) = ⊎_elim (λ (l : T (le y x)). l) (λ (l : T (lt x y)). absurd (true_not_false (is_true (lt x y) l) (here (lt_le x y l)).0))
        (le_or_lt y x n m) in
        ap some (strict.connected i j (there yx).1 (here xy).1)

    -- the order in which points are looked at is of no matter, nor are those without scores
    pub any_order : (js ks : List ℕ) → ((k : ℕ) (z : Float) → score k ≡ some z → In k js → In k ks)
        → ((k : ℕ) (z : Float) → score k ≡ some z → In k ks → In k js) → leader less score js (f32 0) none ≡ leader less score ks (f32 0) none
    any_order js ks f g =
        let l = leader_leads js [] (f32 0) none start in
        let m = leader_leads ks [] (f32 0) none start in
        unique (leader less score js (f32 0) none) (leader less score ks (f32 0) none) l.wins m.wins
        (λ k z q h. let a = l.same k in let b = m.same k in let i = f k z q (omega arith) in omega arith)
        (λ k z q h. let a = l.same k in let b = m.same k in let i = g k z q (omega arith) in omega arith)
      where
        start : Wins [] (f32 0) none
        start = record { behind = λ k h. absurd (omega arith); own = refl }

  -- ---- in their order
  module _ {R : Type 0} (floats : Floats R) (r : R) (used : List ℕ) (e : Edge) (near : ℕ → Bool) where
    abbrev scored : ℕ → Option Float
    scored k = cond (near k) (score_of floats r used e k) none

    -- none comes before the best so far: then only a score above counts
    ahead_above : (top : Float) (best : Option ℕ) (k : ℕ) (o : Option Float) → is_before_best less k best ≡ false → score_ahead less top best k o ≡ above top o
    unfolding score_ahead above
    ahead_above top best k none h = refl
    ahead_above top best k (some x) h = rw (h, or_false (lt top x), go (lt top x) refl)
      where
        go : (t : Bool) → lt top x ≡ t → (le top x && t) ≡ t
        go true q = rw (is_true (le top x) (lt_le top x (holds q)))
        go false q = and_false (le top x)

    pub in_order_lem : (xs : List ℕ) → Sorted less xs → (top : Float) (best : Option ℕ) → ((k : ℕ) → In k xs → is_before_best less k best ≡ false)
        → leader less scored xs top best ≡ best_of floats r used e (only near xs) top best
    unfolding leader only
    in_order_lem [] s top best b = sym (best_end floats r used e top best)
    in_order_lem (k ∷ xs) s top best b = go (near k) (in_order_lem xs s.1)
      where
        rest : (j : ℕ) → In j xs → is_before_best less j best ≡ false
        rest j h = b j (omega arith)

        later : (j : ℕ) → In j xs → less j k ≡ false
        later j h = not-true (λ t. true_not_false (strict.transitive k j k (s.0 j h) t) (strict.irreflexive k))

        go : (t : Bool) → ((top : Float) (best : Option ℕ) → ((j : ℕ) → In j xs → is_before_best less j best ≡ false) → leader less scored xs top best
            ≡ best_of floats r used e (only near xs) top best)
            → elim (score_ahead less top best k (cond t (score_of floats r used e k) none)) as
            (λ c. Option ℕ) [ none ↦ leader less scored xs top best | some x ↦ leader less scored xs x (some k) ]
            ≡ best_of floats r used e (cond t (k ∷ only near xs) (only near xs)) top best
        go true ih =
            ap (λ (o : Option Float). elim o as (λ c. Option ℕ) [ none ↦ leader less scored xs top best | some x ↦ leader less scored xs x (some k) ])
            (ahead_above top best k (score_of floats r used e k) (b k (in_head k xs)))
            ∙ turn (above top (score_of floats r used e k))
            ∙ sym (best_step floats r used e k (only near xs) top best)
          where
            turn : (o : Option Float) → elim o as (λ c. Option ℕ) [ none ↦ leader less scored xs top best | some x ↦ leader less scored xs x (some k) ]
                ≡ after floats r used e k (only near xs) top best o
            turn none = ih top best rest
            turn (some x) = ih x (some k) later
        go false ih = unfold score_ahead in ih top best rest
