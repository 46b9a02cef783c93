-- The place of each face's radius is how many of the numbers of faces after each radius are at most its number. Assumes
-- nothing.
use Prim.Native.Nat.{ℕ, zero, suc, ◌+◌, ◌-◌, ◌*◌, ◌≤◌, ◌<◌}
use mathlib.Core.Path.{◌≡◌, refl, sym, ap, ◌∙◌}
use mathlib.Core.Bool.{Bool, true, false, not}
use mathlib.Core.List.{List, [], ◌∷◌, ◌++◌, append_assoc, append-nil}
use mathlib.Core.Option.{Option, none, some}
use native.Mathlib.Omega.{arith}
use native.Mathlib.Decide.{dec_lt}
use lib.Dec.{ltb}
use borrow.Author.Tests.{lt-ltb, le-ltb}
use lib.ListN.{length, get_or, take, replicate, length-append, length-replicate, get_or-replicate, replicate-append-replicate, get_or-append}
use lib.Seq.{get_or-append-add}
use Rattle.lists.specs.Lists.{bit, any}
use Rattle.patch.specs.Lay.{Edge, same, face, State, Rules, Pop, with_face, cleared, seeded, popped, met, pivoted, looked_at, look, next, run, begun, lay_one}
use Rattle.patch.specs.Lay.{lay_all, blank, patch}
use Rattle.origins.specs.Origins.{Entry, edges_in, PopEntry, Trace, look_trace, next_trace, run_trace, seeded_trace, begun_trace, trace_from, blank_trace, trace}
use Rattle.origins.specs.Pass.{place_of}
use Rattle.origins.specs.Inner.Following.{Follows, KeepsEntries, marks_from}
use Rattle.origins.proofs.Tracing.{KnownTrace, begun_known, blank_known}

abbrev many : State → ℕ
many s = length s.faces

-- ---- no face is taken back
module _ {R : Type 0} (rules : Rules R) (pop : Pop) (r : R) where
  met_more : (e : Edge) (o : Option ℕ) (s : State) → many s ≤ many (met e o s)
  unfolding met with_face
  met_more e none s = omega arith
  met_more e (some k) s = omega (arith, length-append s.faces (face e.v1 e.v2 k ∷ []))

  judged_more : (b : Bool) (e : Edge) (rest : List Edge) (s : State) → many s ≤ many (looked_at rules pop r b e (popped rest s))
  unfolding looked_at popped pivoted
  judged_more true e rest s = omega arith
  judged_more false e rest s = met_more e (rules.pivot_of r s.used e) (popped rest s)

  look_more : (e : Edge) (rest : List Edge) (s : State) → many s ≤ many (look rules pop r e rest s)
  unfolding look
  look_more e rest s = judged_more (any (same e) s.processed) e rest s

  next_more : (l : List Edge) (s : State) → many s ≤ many (next rules pop r l s)
  unfolding next
  next_more [] s = omega arith
  next_more (x ∷ xs) s = look_more (pop x xs).0 (pop x xs).1 s

  run_more : (m : ℕ) (s : State) → many s ≤ many (run rules pop r m s)
  unfolding run
  run_more zero s = omega arith
  run_more (suc m) s = let a = next_more s.frontier s in let b = run_more m (next rules pop r s.frontier s) in omega arith

  begun_more : (n : ℕ) (o : Option (ℕ × ℕ × ℕ)) (s : State) → many s ≤ many (begun rules pop r n o s)
  unfolding begun seeded with_face
  begun_more n none s = omega arith
  begun_more n (some t) s = let a = run_more (3 * n) (seeded t s) in omega (arith, length-append s.faces (face t.0 t.1 t.2 ∷ []))

  lay_one_more : (n : ℕ) (s : State) → many s ≤ many (lay_one rules pop n r s)
  unfolding lay_one cleared
  lay_one_more n s = begun_more n (rules.seed_of r s.used) (cleared s)

-- ---- what one radius notes
record Noted (place : ℕ) (t u : Trace) : Type 0 where
  pub more : many t.state ≤ many u.state
  pub notes : u.places ≡ t.places ++ replicate (many u.state - many t.state) place

noted_none : (place : ℕ) (t : Trace) → Noted place t t
noted_none place t = record {
  more = omega arith;
  notes = let z : many t.state - many t.state ≡ 0 = omega arith in sym (append-nil t.places) ∙ ap (λ (m : ℕ). t.places ++ replicate m place) (sym z);
}

noted_then : (place : ℕ) (t u v : Trace) → Noted place t u → Noted place u v → Noted place t v
noted_then place t u v a b =
    let x = many u.state - many t.state in
    let y = many v.state - many u.state in
    let e : x + y ≡ many v.state - many t.state = omega (arith, a.more, b.more) in
    record {
      more = omega (arith, a.more, b.more);
      notes =
          b.notes
          ∙ ap (λ (l : List ℕ). l ++ replicate y place) a.notes
          ∙ append_assoc t.places (replicate x place) (replicate y place)
          ∙ ap (λ (l : List ℕ). t.places ++ l) (replicate-append-replicate x y place ∙ ap (λ (m : ℕ). replicate m place) e);
    }

module _ {R : Type 0} (rules : Rules R) (pop : Pop) (popEntry : PopEntry) (r : R) (place : ℕ) where
  look_noted : (x : Entry) (rest : List Entry) (t : Trace) → Noted place t (look_trace rules pop popEntry r place x rest t)
  unfolding look_trace
  look_noted x rest t = record { more = look_more rules pop r x.along (edges_in rest) t.state; notes = refl }

  next_noted : (l : List Entry) (t : Trace) → Noted place t (next_trace rules pop popEntry r place l t)
  unfolding next_trace
  next_noted [] t = noted_none place t
  next_noted (x ∷ xs) t = look_noted (popEntry x xs).0 (popEntry x xs).1 t

  run_noted : (m : ℕ) (t : Trace) → Noted place t (run_trace rules pop popEntry r place m t)
  unfolding run_trace
  run_noted zero t = noted_none place t
  run_noted (suc m) t =
      let u = next_trace rules pop popEntry r place t.entries t in
      noted_then place t u (run_trace rules pop popEntry r place m u) (next_noted t.entries t) (run_noted m u)

  seeded_noted : (v : ℕ × ℕ × ℕ) (t : Trace) → Noted place t (seeded_trace rules pop popEntry r place v t)
  unfolding seeded_trace seeded cleared with_face
  seeded_noted v t =
      let l = length-append t.state.faces (face v.0 v.1 v.2 ∷ []) in
      let one : length (t.state.faces ++ (face v.0 v.1 v.2 ∷ [])) - many t.state ≡ 1 = omega arith in
      record { more = omega arith; notes = ap (λ (m : ℕ). t.places ++ replicate m place) (sym one) }

  begun_noted : (n : ℕ) (o : Option (ℕ × ℕ × ℕ)) (t : Trace) → Noted place t (begun_trace rules pop popEntry r place n o t)
  unfolding begun_trace cleared
  begun_noted n none t = let w = noted_none place t in record { more = w.more; notes = w.notes }
  begun_noted n (some v) t =
      let u = seeded_trace rules pop popEntry r place v t in
      noted_then place t u (run_trace rules pop popEntry r place (3 * n) u) (seeded_noted v t) (run_noted (3 * n) u)

-- ---- all radii
unfoldable places_from : {R : Type 0} → Rules R → Pop → ℕ → ℕ → List R → State → List ℕ
places_from rules pop n k [] s = []
places_from rules pop n k (r ∷ rs) s =
    let t = lay_one rules pop n r s in
    replicate (many t - many s) k ++ places_from rules pop n (suc k) rs t

module _ {R : Type 0} (rules : Rules R) (pop : Pop) (n : ℕ) where
  places_many : (k : ℕ) (rs : List R) (s : State) → many s + length (places_from rules pop n k rs s) ≡ many (lay_all rules pop n rs s)
  unfolding places_from lay_all
  places_many k [] s = omega arith
  places_many k (r ∷ rs) s =
      let t = lay_one rules pop n r s in
      let ih = places_many (suc k) rs t in
      let m = lay_one_more rules pop r n s in
      omega (arith, length-append (replicate (many t - many s) k) (places_from rules pop n (suc k) rs t), length-replicate (many t - many s) k)

  -- a face before all marks has none of them at most its number
  none_yet : (rs : List R) (s : State) (i : ℕ) → i < many s → place_of (marks_from rules pop n rs s) i ≡ 0
  unfolding marks_from place_of
  none_yet [] s i h = refl
  none_yet (r ∷ rs) s i h =
      let t = lay_one rules pop n r s in
      let m = lay_one_more rules pop r n s in
      let ih = none_yet rs t i (omega arith) in
      let e : bit (not (ltb i (many t))) ≡ 0 = ap (λ (b : Bool). bit (not b)) (lt-ltb i (many t) (omega arith)) in
      omega arith

  marks : (r : R) (rs : List R) (s : State) (j : ℕ) → place_of (marks_from rules pop n (r ∷ rs) s) j ≡ bit (not (ltb j (many (lay_one rules pop n r s))))
      + place_of (marks_from rules pop n rs (lay_one rules pop n r s)) j
  unfolding marks_from place_of
  marks r rs s j = refl

  place_at : (k : ℕ) (rs : List R) (s : State) (i : ℕ) → i < length (places_from rules pop n k rs s) → get_or (places_from rules pop n k rs s) i 0 ≡ k
      + place_of (marks_from rules pop n rs s) (many s + i)
  unfolding places_from
  place_at k [] s i h = absurd (omega arith)
  place_at k (r ∷ rs) s i h = go (dec_lt i (many t - many s)) (λ j. place_at (suc k) rs t j)
    where
      t : State
      t = lay_one rules pop n r s

      front : List ℕ
      front = replicate (many t - many s) k

      back : List ℕ
      back = places_from rules pop n (suc k) rs t

      m : many s ≤ many t
      m = lay_one_more rules pop r n s

      go : Dec (i < many t - many s) → ((j : ℕ) → j < length back → get_or back j 0 ≡ suc k + place_of (marks_from rules pop n rs t) (many t + j))
          → get_or (front ++ back) i 0 ≡ k + place_of (marks_from rules pop n (r ∷ rs) s) (many s + i)
      go (yes l) ih =
          let e = length-replicate (many t - many s) k in
          let a = get_or-append front back 0 i (omega (arith, m)) in
          let b = get_or-replicate (many t - many s) i k 0 l in
          let c : bit (not (ltb (many s + i) (many t))) ≡ 0 = ap (λ (b : Bool). bit (not b)) (lt-ltb (many s + i) (many t) (omega (arith, m))) in
          let z = none_yet rs t (many s + i) (omega (arith, m)) in
          let w = marks r rs s (many s + i) in
          omega (arith, m)
      go (no l) ih =
          let e = length-replicate (many t - many s) k in
          let j = i - (many t - many s) in
          let p : length front + j ≡ i = omega (arith, m) in
          let a : get_or (front ++ back) i 0 ≡ get_or back j 0 = ap (λ (x : ℕ). get_or (front ++ back) x 0) (sym p) ∙ get_or-append-add front back j 0 in
          let lb = length-append front back in
          let b = ih j (omega (arith, m)) in
          let q : many t + j ≡ many s + i = omega (arith, m) in
          let d : place_of (marks_from rules pop n rs t) (many t + j)
          ≡ place_of (marks_from rules pop n rs t) (many s + i) = ap (place_of (marks_from rules pop n rs t)) q in
          let c : bit (not (ltb (many s + i) (many t))) ≡ 1 = ap (λ (b : Bool). bit (not b)) (le-ltb (many s + i) (many t) (omega (arith, m))) in
          let w = marks r rs s (many s + i) in
          omega (arith, m)

  -- the marks are the numbers of faces after each radius
  pub mark_at : (rs : List R) (s : State) (p : ℕ) → p < length rs → get_or (marks_from rules pop n rs s) p 0
      ≡ length (lay_all rules pop n (take (suc p) rs) s).faces
  unfolding marks_from lay_all
  mark_at [] s p h = absurd (omega arith)
  mark_at (r ∷ rs) s zero h = refl
  mark_at (r ∷ rs) s (suc p) h = mark_at rs (lay_one rules pop n r s) p (omega arith)

  pub marks_length : (rs : List R) (s : State) → length (marks_from rules pop n rs s) ≡ length rs
  unfolding marks_from
  marks_length [] s = refl
  marks_length (r ∷ rs) s = ap suc (marks_length rs (lay_one rules pop n r s))

module _ {R : Type 0} (rules : Rules R) (pop : Pop) (popEntry : PopEntry) (follows : Follows popEntry pop) (keeps : KeepsEntries popEntry) (n : ℕ) where
  places_from_lem : (k : ℕ) (rs : List R) (t : Trace) → KnownTrace t → (trace_from rules pop popEntry n k rs t).places ≡ t.places
      ++ places_from rules pop n k rs t.state
  unfolding trace_from places_from lay_one
  places_from_lem k [] t h = sym (append-nil t.places)
  places_from_lem k (r ∷ rs) t h =
      let u = begun_trace rules pop popEntry r k n (rules.seed_of r t.state.used) t in
      let b = begun_known rules pop popEntry follows keeps r k n (rules.seed_of r t.state.used) t h in
      let s = begun rules pop r n (rules.seed_of r t.state.used) (cleared t.state) in
      let w = begun_noted rules pop popEntry r k n (rules.seed_of r t.state.used) t in
      places_from_lem (suc k) rs u b.0
      ∙ ap (λ (l : List ℕ). l ++ places_from rules pop n (suc k) rs u.state) w.notes
      ∙ append_assoc t.places (replicate (many u.state - many t.state) k) (places_from rules pop n (suc k) rs u.state)
      ∙ ap (λ (x : State). t.places ++ (replicate (many x - many t.state) k ++ places_from rules pop n (suc k) rs x)) b.1

  module _ (rs : List R) where
    are : (trace rules pop popEntry n rs).places ≡ places_from rules pop n 0 rs (blank n)
    unfolding trace
    are = places_from_lem 0 rs (blank_trace n) (blank_known rules pop popEntry follows keeps n)

    -- each face has a place
    pub places_length : length (trace rules pop popEntry n rs).places ≡ length (patch rules pop n rs).faces
    unfolding patch
    places_length = ap length are ∙ (omega (arith, places_many rules pop n 0 rs (blank n)))

    pub place_is : (i : ℕ) → i < length (patch rules pop n rs).faces → get_or (trace rules pop popEntry n rs).places i 0
        ≡ place_of (marks_from rules pop n rs (blank n)) i
    unfolding patch
    place_is i b =
        let e = place_at rules pop n 0 rs (blank n) i (omega (arith, places_many rules pop n 0 rs (blank n))) in
        let z : 0 + i ≡ i = omega arith in
        let w : place_of (marks_from rules pop n rs (blank n)) (0 + i)
        ≡ place_of (marks_from rules pop n rs (blank n)) i = ap (place_of (marks_from rules pop n rs (blank n))) z in
        ap (λ (l : List ℕ). get_or l i 0) are ∙ e ∙ (omega (arith, w))
