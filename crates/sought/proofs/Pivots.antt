-- The search for the best score takes the highest above 0, the first on equality, and nothing else. Assumes nothing.
use Prim.Native.Nat.{ℕ}
use native.Mathlib.Omega.{arith}
use mathlib.Core.Path.{◌≡◌, refl, sym, ap, ◌∙◌, subst}
use mathlib.Core.Logic.{inl, inr, ⊎_elim}
use mathlib.Core.Bool.{Bool, true, false}
use mathlib.Core.List.{List, [], ◌∷◌, ◌++◌}
use mathlib.Core.Option.{Option, none, some}
use lib.Dec.{T}
use lib.Ieee.{Float, lt, le}
use lib.Ieee.Bits.{is_true}
use Rattle.numbers.specs.Rounded.{f32}
use Rattle.numbers.proofs.OrderLaws.{lt_le, le_not_lt, le_right, le_or_lt, lt_le_trans}
use Rattle.lists.specs.Members.{In}
use Rattle.lists.proofs.Members.{in_head, in_cases}
use Rattle.lists.proofs.Bools.{not-true, true_not_false}
use Rattle.patch.specs.Lay.{Edge}
use Rattle.patch.specs.Search.{Floats, score_of, best_of, searching}
use Rattle.sought.specs.Sought.{Highest, NoneHigh, PivotSought}

holds : {b : Bool} → b ≡ true → T b
holds e = subst T (sym e) tt

-- ---- options
abbrev told : Option ℕ → ℕ
told none = 0
told (some k) = k

abbrev value : Option Float → Float
value none = f32 0
value (some x) = x

none_some : {A : Type 0} {x : A} → none ≡ some x → ⊥
none_some {A} {x} q = subst is_none q tt
  where
    is_none : Option A → Type 0
    is_none none = Unit {0}
    is_none (some y) = ⊥

-- ---- order
lower : (x y : Float) → lt x y ≡ true → le y x ≡ false
lower x y h = not-true (λ (k : le y x ≡ true). le_not_lt y x (holds k) (holds h))

between : (top x y : Float) → lt top x ≡ true → lt x y ≡ true → lt top y ≡ true
between top x y h k = is_true (lt top y) (lt_le_trans top x y (holds h) (lt_le x y (holds k)))

not_reached : (top x y : Float) → lt top x ≡ true → lt top y ≡ false → le x y ≡ false
not_reached top x y h k = not-true (λ (l : le x y ≡ true).
    true_not_false (is_true (lt top y) (lt_le_trans top x y (holds h) (holds l))) k)

-- x is above z, and no y that is not below x is reached: y is below x
above_it : (z x y : Float) → lt z y ≡ true → lt z x ≡ true → le x y ≡ false → lt y x ≡ true
above_it z x y h g k = ⊎_elim
    (λ (l : T (le x y)). absurd (true_not_false (is_true (le x y) l) k))
    (λ (l : T (lt y x)). is_true (lt y x) l)
    (le_or_lt x y (le_right z x (lt_le z x (holds g))) (le_right z y (lt_le z y (holds h))))

module _ {R : Type 0} (floats : Floats R) (r : R) (used : List ℕ) (e : Edge) where
  abbrev score : ℕ → Option Float
  score k = score_of floats r used e k

  abbrev best : List ℕ → Float → Option ℕ → Option ℕ
  best ks top b = best_of floats r used e ks top b

  -- no score is above
  abbrev Quiet : List ℕ → Float → Type 0
  Quiet ks top = (j : ℕ) (x : Float) → In j ks → score j ≡ some x → lt top x ≡ false

  record Over (ks : List ℕ) (low : Float) (k : ℕ) : Type 0 where
    before : List ℕ
    behind : List ℕ
    among : ks ≡ before ++ (k ∷ behind)
    top : Float
    score_is : score k ≡ some top
    above : lt low top ≡ true
    earlier : (j : ℕ) (x : Float) → In j before → score j ≡ some x → le top x ≡ false
    later : (j : ℕ) (x : Float) → In j behind → score j ≡ some x → lt top x ≡ false

  -- ---- one step of the search
  abbrev step : ℕ → List ℕ → Float → Option ℕ → Option Float → Option ℕ
  step k ks top b o =
      elim o as (λ d. Option ℕ) [
        | none ↦ best ks top b
        | some s ↦ elim (lt top s) as (λ d. Option ℕ) [ true ↦ best ks s (some k) | false ↦ best ks top b ]
      ]

  best_cons : (k : ℕ) (ks : List ℕ) (top : Float) (b : Option ℕ) → best (k ∷ ks) top b ≡ step k ks top b (score k)
  unfolding best_of
  best_cons k ks top b = refl

  passed : (k : ℕ) (ks : List ℕ) (top : Float) (b : Option ℕ) → ((x : Float) → score k ≡ some x → lt top x ≡ false)
      → best (k ∷ ks) top b ≡ best ks top b
  passed k ks top b h = best_cons k ks top b ∙ go (score k) h
    where
      go : (o : Option Float) → ((x : Float) → o ≡ some x → lt top x ≡ false) → step k ks top b o ≡ best ks top b
      go none q = refl
      go (some s) q = ap (λ (c : Bool). elim c as (λ d. Option ℕ) [ true ↦ best ks s (some k) | false ↦ best ks top b ]) (q s refl)

  taken : (k : ℕ) (ks : List ℕ) (top s : Float) (b : Option ℕ) → score k ≡ some s → lt top s ≡ true
      → best (k ∷ ks) top b ≡ best ks s (some k)
  taken k ks top s b q l =
      best_cons k ks top b ∙ ap (step k ks top b) q
      ∙ ap (λ (c : Bool). elim c as (λ d. Option ℕ) [ true ↦ best ks s (some k) | false ↦ best ks top b ]) l

  -- ---- what is known once the search is over
  data Ends (ks : List ℕ) (top : Float) (b : Option ℕ) : Type 0 where
    stays : best ks top b ≡ b → Quiet ks top → Ends ks top b
    finds : (k : ℕ) → best ks top b ≡ some k → Over ks top k → Ends ks top b

  none_in : (j : ℕ) → In j [] → ⊥
  none_in j h = omega arith

  ends : (ks : List ℕ) (top : Float) (b : Option ℕ) → Ends ks top b
  unfolding best_of
  ends [] top b = stays refl (λ j x i. absurd (none_in j i))
  ends (k ∷ ks) top b = go (score k) refl (ends ks)
    where
      quiet : (t : Float) → ((x : Float) → score k ≡ some x → lt t x ≡ false) → Quiet ks t → Quiet (k ∷ ks) t
      quiet t h q j x i = in_cases (λ j. (x : Float) → score j ≡ some x → lt t x ≡ false) k ks h (λ j i x. q j x i) j i x

      further : {low t : Float} {m : ℕ} (o : Over ks low m) → lt t o.top ≡ true
          → ((x : Float) → score k ≡ some x → le o.top x ≡ false) → Over (k ∷ ks) t m
      further o a h = record {
        before = k ∷ o.before;
        behind = o.behind;
        among = ap (λ (l : List ℕ). k ∷ l) o.among;
        top = o.top;
        score_is = o.score_is;
        above = a;
        earlier = λ j x i. in_cases (λ j. (x : Float) → score j ≡ some x → le o.top x ≡ false) k o.before h
            (λ j i x. o.earlier j x i) j i x;
        later = o.later;
      }

      low : (x : Float) → lt top x ≡ false → Ends ks top b → score k ≡ some x → Ends (k ∷ ks) top b
      low x l (stays p q) s =
          let h : (y : Float) → score k ≡ some y → lt top y ≡ false = λ y t. subst (λ (z : Float). lt top z ≡ false) (ap value (sym s ∙ t)) l in
          stays (passed k ks top b h ∙ p) (quiet top h q)
      low x l (finds m p o) s =
          let h : (y : Float) → score k ≡ some y → lt top y ≡ false = λ y t. subst (λ (z : Float). lt top z ≡ false) (ap value (sym s ∙ t)) l in
          finds m (passed k ks top b h ∙ p) (further o o.above (λ y t. not_reached top o.top y o.above (h y t)))

      high : (x : Float) → lt top x ≡ true → Ends ks x (some k) → score k ≡ some x → Ends (k ∷ ks) top b
      high x l (stays p q) s = finds k (taken k ks top x b s l ∙ p)
          (record { before = []; behind = ks; among = refl; top = x; score_is = s; above = l; earlier = λ j y i. absurd (none_in j i); later = q })
      high x l (finds m p o) s = finds m (taken k ks top x b s l ∙ p)
          (further o (between top x o.top l o.above)
          (λ y t. subst (λ (z : Float). le o.top z ≡ false) (ap value (sym s ∙ t)) (lower x o.top o.above)))

      silent : score k ≡ none → Ends ks top b → Ends (k ∷ ks) top b
      silent s (stays p q) =
          let h : (y : Float) → score k ≡ some y → lt top y ≡ false = λ y t. absurd (none_some (sym s ∙ t)) in
          stays (passed k ks top b h ∙ p) (quiet top h q)
      silent s (finds m p o) =
          let h : (y : Float) → score k ≡ some y → lt top y ≡ false = λ y t. absurd (none_some (sym s ∙ t)) in
          finds m (passed k ks top b h ∙ p) (further o o.above (λ y t. absurd (none_some (sym s ∙ t))))

      by : (x : Float) (c : Bool) → lt top x ≡ c → score k ≡ some x → ((t : Float) (b : Option ℕ) → Ends ks t b) → Ends (k ∷ ks) top b
      by x true l s ih = high x l (ih x (some k)) s
      by x false l s ih = low x l (ih top b) s

      go : (o : Option Float) → score k ≡ o → ((t : Float) (b : Option ℕ) → Ends ks t b) → Ends (k ∷ ks) top b
      go none s ih = silent s (ih top b)
      go (some x) s ih = by x (lt top x) refl s ih

  -- ---- the other way: whoever is over all others is found
  quiet_stays : (ks : List ℕ) (top : Float) (b : Option ℕ) → Quiet ks top → best ks top b ≡ b
  unfolding best_of
  quiet_stays [] top b q = refl
  quiet_stays (k ∷ ks) top b q =
      passed k ks top b (λ x s. q k x (in_head k ks) s) ∙ quiet_stays ks top b (λ j x i s. q j x (let h = i in omega arith) s)

  over_found : (before behind : List ℕ) (k : ℕ) (low top : Float) (b : Option ℕ) → score k ≡ some top → lt low top ≡ true
      → ((j : ℕ) (x : Float) → In j before → score j ≡ some x → le top x ≡ false) → Quiet behind top
      → best (before ++ (k ∷ behind)) low b ≡ some k
  over_found [] behind k low top b s a h q = taken k behind low top b s a ∙ quiet_stays behind top (some k) q
  over_found (j ∷ js) behind k low top b s a h q =
      go (score j) refl (λ t c l. over_found js behind k t top c s l (λ i x m u. h i x (let w = m in omega arith) u) q)
    where
      Rest : Type 0
      Rest = (t : Float) (c : Option ℕ) → lt t top ≡ true → best (js ++ (k ∷ behind)) t c ≡ some k

      by : (x : Float) (c : Bool) → lt low x ≡ c → score j ≡ some x → Rest
          → best (j ∷ (js ++ (k ∷ behind))) low b ≡ some k
      by x true l t ih =
          taken j (js ++ (k ∷ behind)) low x b t l
          ∙ ih x (some j) (above_it low top x l a (h j x (in_head j js) t))
      by x false l t ih =
          passed j (js ++ (k ∷ behind)) low b (λ y u. subst (λ (z : Float). lt low z ≡ false) (ap value (sym t ∙ u)) l)
          ∙ ih low b a

      go : (o : Option Float) → score j ≡ o → Rest → best (j ∷ (js ++ (k ∷ behind))) low b ≡ some k
      go none t ih = passed j (js ++ (k ∷ behind)) low b (λ y u. absurd (none_some (sym t ∙ u))) ∙ ih low b a
      go (some x) t ih = by x (lt low x) refl t ih

-- ---- the pivot
module _ {R : Type 0} (floats : Floats R) (n : ℕ) (r : R) (used : List ℕ) (e : Edge) where
  abbrev near : List ℕ
  near = floats.around r e

  abbrev found : Option ℕ
  found = best_of floats r used e near (f32 0) none

  abbrev whether : Bool → Option ℕ
  whether b = elim b as (λ d. Option ℕ) [ true ↦ found | false ↦ none ]

  pivot_is : (searching floats n).pivot_of r used e ≡ whether (floats.pivotable r e)
  unfolding searching
  pivot_is = refl

  from_over : (k m : ℕ) → m ≡ k → Over floats r used e near (f32 0) m → Highest floats n r used e k
  from_over k m q o = subst (λ (j : ℕ). Highest floats n r used e j) q (record {
    before = o.before;
    behind = o.behind;
    among = o.among;
    top = o.top;
    score_is = o.score_is;
    above = o.above;
    earlier = o.earlier;
    later = o.later;
  })

  to_highest : (k : ℕ) (b : Bool) → floats.pivotable r e ≡ b → whether b ≡ some k
      → (floats.pivotable r e ≡ true) × Highest floats n r used e k
  to_highest k false q h = absurd (none_some h)
  to_highest k true q h = (q, go (ends floats r used e near (f32 0) none))
    where
      go : Ends floats r used e near (f32 0) none → Highest floats n r used e k
      go (stays p w) = absurd (none_some (sym p ∙ h))
      go (finds m p o) = from_over k m (ap told (sym p ∙ h)) o

  from_highest : (k : ℕ) → Highest floats n r used e k → found ≡ some k
  from_highest k w =
      ap (λ (ks : List ℕ). best_of floats r used e ks (f32 0) none) w.among
      ∙ over_found floats r used e w.before w.behind k (f32 0) w.top none w.score_is w.above w.earlier
      w.later

  to_none : (b : Bool) → floats.pivotable r e ≡ b → whether b ≡ none → NoneHigh floats n r used e
  to_none false q h = inl q
  to_none true q h = inr (go (ends floats r used e near (f32 0) none))
    where
      go : Ends floats r used e near (f32 0) none → Quiet floats r used e near (f32 0)
      go (stays p w) = w
      go (finds m p o) = absurd (none_some (sym h ∙ p))

  from_none : (b : Bool) → floats.pivotable r e ≡ b → NoneHigh floats n r used e → whether b ≡ none
  from_none false q w = refl
  from_none true q (inl p) = absurd (true_not_false q p)
  from_none true q (inr w) = quiet_stays floats r used e near (f32 0) none w

  pub pivot_sought : PivotSought floats n r used e
  pivot_sought = record {
    highest = λ k. (
      λ h. to_highest k (floats.pivotable r e) refl (sym pivot_is ∙ h),
      λ w. pivot_is ∙ ap whether w.0 ∙ from_highest k w.1,
    );
    none_exactly = (
      λ h. to_none (floats.pivotable r e) refl (sym pivot_is ∙ h),
      λ w. pivot_is ∙ from_none (floats.pivotable r e) refl w,
    );
  }
