-- Laying with the numbers of the faces that pushed the entries lays the same faces, and the parents that it notes are
-- those that the faces tell. Assumes nothing.
use Prim.Native.Nat.{ℕ, zero, suc, ◌+◌, ◌-◌, ◌*◌, ◌≤◌, ◌<◌}
use mathlib.Core.Path.{◌≡◌, refl, sym, ap, ap₂, ◌∙◌, subst}
use mathlib.Core.Logic.{◌⊎◌, ⊎_elim}
use mathlib.Core.Bool.{Bool, true, false, ◌&&◌, cond}
use mathlib.Core.List.{List, [], ◌∷◌, ◌++◌, map, map-append, append-nil, append_assoc}
use mathlib.Core.Option.{Option, none, some}
use native.Mathlib.Omega.{arith}
use native.Mathlib.Decide.{dec_lt}
use lib.Dec.{eqb, ltb}
use borrow.Author.Tests.{eqb-true, eq-eqb}
use lib.ListN.{length, get_or, set, take, drop, replicate, length-append, length-map, get_or-append, get_or-map}
use lib.Seq.{get_or_at, drop-append_seam}
use Rattle.lists.specs.Lists.{bit, count, any}
use Rattle.patch.specs.Lay.{Edge, same, Face, face, edges_of, State, Rules, Pop, push, with_face, cleared, seeded, popped, met, pivoted, looked_at, look, next}
use Rattle.patch.specs.Lay.{run, begun, lay_one, lay_all, patch}
use Rattle.patch.specs.Fair.{Fair, Keeps, Shaped}
use Rattle.patch.specs.Frontier.{sift, after_pop, waiting_after, no_edge, pop_of}
use Rattle.patch.proofs.Pops.{pop_count}
use Rattle.patch.proofs.Laying.{patch_shape}
use Rattle.patch.specs.Shape.{no_face}
use Rattle.lists.proofs.Bools.{either, true_not_false, and_both}
use Rattle.lists.proofs.Counts.{any_true, any_false, true_any, count_append}
use Rattle.orders.specs.Order.{face_at}
use Rattle.origins.specs.Turned.{exactly, runs}
use Rattle.origins.specs.Origins.{Entry, entry, PopEntry, pop_entry_of, Trace, look_trace, next_trace, run_trace, seeded_trace, begun_trace, trace_from}
use Rattle.origins.specs.Origins.{blank_trace, trace}
use Rattle.origins.specs.Inner.Following.{parent_of, Follows, KeepsEntries}
use Rattle.origins.proofs.Directed.{runs_has}
use Rattle.origins.proofs.Running.{Running, patch_running}
use Rattle.origins.proofs.Turning.{seed_parent, parent_only}

-- ---- what a push adds
kept : List Edge → List Edge → List Edge
kept processed [] = []
kept processed (e ∷ es) = cond (any (same e) processed) (kept processed es) (e ∷ kept processed es)

push_kept : (processed frontier es : List Edge) → push processed frontier es ≡ frontier ++ kept processed es
unfolding push kept
push_kept processed frontier [] = sym (append-nil frontier)
push_kept processed frontier (e ∷ es) = go (any (same e) processed) (push_kept processed frontier es) (push_kept processed (frontier ++ (e ∷ [])) es)
  where
    go : (b : Bool) → push processed frontier es ≡ frontier ++ kept processed es → push processed (frontier ++ (e ∷ [])) es ≡ (frontier ++ (e ∷ []))
        ++ kept processed es
        → push processed (cond b frontier (frontier ++ (e ∷ []))) es ≡ frontier ++ cond b (kept processed es) (e ∷ kept processed es)
    go true h k = h
    go false h k = k ∙ append_assoc frontier (e ∷ []) (kept processed es)

kept_few : (p : Edge → Bool) (processed es : List Edge) → count p (kept processed es) ≤ count p es
unfolding kept
kept_few p processed [] = omega arith
kept_few p processed (e ∷ es) = go (any (same e) processed) (kept_few p processed es)
  where
    go : (b : Bool) → count p (kept processed es) ≤ count p es → count p (cond b (kept processed es) (e ∷ kept processed es)) ≤ count p (e ∷ es)
    go true h = omega arith
    go false h = omega arith

-- ---- what a look leaves
data Looked (s after : State) (e : Edge) (rest : List Edge) : Type 0 where
  still : after.faces ≡ s.faces → after.seed_flags ≡ s.seed_flags → after.frontier ≡ rest → Looked s after e rest
  grew : (k : ℕ) → after.faces ≡ s.faces ++ (face e.v1 e.v2 k ∷ []) → after.seed_flags ≡ s.seed_flags ++ (false ∷ []) → after.frontier ≡ rest
      ++ kept s.processed (edges_of (face e.v1 e.v2 k)) → Looked s after e rest

met_looked : (e : Edge) (rest : List Edge) (s : State) (o : Option ℕ) → Looked s (pivoted e (met e o (popped rest s))) e rest
unfolding pivoted met popped with_face
met_looked e rest s none = still refl refl refl
met_looked e rest s (some k) = grew k refl refl (push_kept s.processed rest (edges_of (face e.v1 e.v2 k)))

module _ {R : Type 0} (rules : Rules R) (pop : Pop) (r : R) where
  judged_looked : (b : Bool) (e : Edge) (rest : List Edge) (s : State) → Looked s (looked_at rules pop r b e (popped rest s)) e rest
  unfolding looked_at popped
  judged_looked true e rest s = still refl refl refl
  judged_looked false e rest s = met_looked e rest s (rules.pivot_of r s.used e)

  looked : (e : Edge) (rest : List Edge) (s : State) → Looked s (look rules pop r e rest s) e rest
  unfolding look
  looked e rest s = judged_looked (any (same e) s.processed) e rest s

-- ---- what the numbers mean
abbrev is_entry : ℕ → ℕ → ℕ → Entry → Bool
is_entry x y j en = exactly x y en.along && eqb j en.by

-- the parent noted for face i
pub record Noted (flags : List Bool) (fs : List Face) (parents : List ℕ) (i : ℕ) : Type 0 where
  pub seed : get_or flags i false ≡ true → get_or parents i 0 ≡ i
  pub other : get_or flags i false ≡ false → (get_or parents i 0 < i) × (runs (face_at fs i).a (face_at fs i).b (face_at fs (get_or parents i 0)) ≡ true)

pub record Known (flags : List Bool) (fs : List Face) (frontier : List Edge) (entries : List Entry) (parents : List ℕ) : Type 0 where
  pub flagged : length flags ≡ length fs
  pub long : length parents ≡ length fs
  pub same_frontier : map (λ y. y.along) entries ≡ frontier
  pub entry_known : (x y j : ℕ) → 1 ≤ count (is_entry x y j) entries → (j < length fs) × (runs x y (face_at fs j) ≡ true)
  pub noted : (i : ℕ) → i < length fs → Noted flags fs parents i

abbrev pub KnownTrace : Trace → Type 0
KnownTrace t = Known t.state.seed_flags t.state.faces t.state.frontier t.entries t.parents

known_at : {flags flags' : List Bool} {fs fs' : List Face} {frontier frontier' : List Edge} {entries entries' : List Entry} {parents parents' : List ℕ}
    → flags' ≡ flags → fs' ≡ fs → frontier' ≡ frontier → entries' ≡ entries → parents' ≡ parents → Known flags fs frontier entries parents
    → Known flags' fs' frontier' entries' parents'
known_at a b c d e h = rw (a, b, c, d, e) h

-- one more face
noted_snoc : (flags : List Bool) (fs : List Face) (parents : List ℕ) (b : Bool) (f : Face) (p : ℕ) → length flags ≡ length fs → length parents ≡ length fs
    → ((i : ℕ) → i < length fs → Noted flags fs parents i)
    → (b ≡ true → p ≡ length fs) → (b ≡ false → (p < length fs) × (runs f.a f.b (face_at fs p) ≡ true))
    → (i : ℕ) → i < length (fs ++ (f ∷ [])) → Noted (flags ++ (b ∷ [])) (fs ++ (f ∷ [])) (parents ++ (p ∷ [])) i
noted_snoc flags fs parents b f p l m h s o i g = go (dec_lt i (length fs))
  where
    go : Dec (i < length fs) → Noted (flags ++ (b ∷ [])) (fs ++ (f ∷ [])) (parents ++ (p ∷ [])) i
    go (yes y) =
        let n = h i y in
        let yf : i < length flags = omega arith in
        let yp : i < length parents = omega arith in
        let ef = get_or-append flags (b ∷ []) false i yf in
        let ep = get_or-append parents (p ∷ []) 0 i yp in
        let ei = get_or-append fs (f ∷ []) no_face i y in
        record {
          seed = λ t. ep ∙ n.seed (sym ef ∙ t);
          other = λ t.
              let q = n.other (sym ef ∙ t) in
              let eq : face_at (fs ++ (f ∷ [])) (get_or parents i 0)
              ≡ face_at fs (get_or parents i 0) = get_or-append fs (f ∷ []) no_face (get_or parents i 0) (omega (arith, q.0)) in
              rw (ep, ei, eq) q;
        }
    go (no y) =
        let e : length fs ≡ i = omega (arith, length-append fs (f ∷ [])) in
        let ef = get_or_at flags b [] false i (l ∙ e) in
        let ep = get_or_at parents p [] 0 i (m ∙ e) in
        let ei = get_or_at fs f [] no_face i e in
        record {
          seed = λ t. ep ∙ s (sym ef ∙ t) ∙ e;
          other = λ t.
              let q = o (sym ef ∙ t) in
              let eq : face_at (fs ++ (f ∷ [])) p ≡ face_at fs p = get_or-append fs (f ∷ []) no_face p q.0 in
              rw (ep, ei, eq) (omega (arith, q.0), q.1);
        }

-- the entries that a face pushed
pushed : (x y j n : ℕ) (es : List Edge) → 1 ≤ count (is_entry x y j) (map (entry n) es) → (j ≡ n) × (1 ≤ count (exactly x y) es)
pushed x y j n [] h = absurd (omega arith)
pushed x y j n (e ∷ es) h = ⊎_elim
    (λ (t : is_entry x y j (entry n e) ≡ true).
    let b = and_both {p = exactly x y e} {q = eqb j n} t in
    let o : bit (exactly x y e) ≡ 1 = ap bit b.0 in
    (eqb-true j n b.1, omega arith))
    (λ (t : is_entry x y j (entry n e) ≡ false).
    let z : bit (is_entry x y j (entry n e)) ≡ 0 = ap bit t in
    let r = pushed x y j n es (omega arith) in
    (r.0, omega (arith, r.1)))
    (either (is_entry x y j (entry n e)))

runs_edge : (x y : ℕ) (f : Face) → 1 ≤ count (exactly x y) (edges_of f) → runs x y f ≡ true
unfolding runs
runs_edge x y f h = true_any (exactly x y) (edges_of f) h

numbered : (n : ℕ) (es : List Edge) → map (λ (y : Entry). y.along) (map (entry n) es) ≡ es
numbered n [] = refl
numbered n (e ∷ es) = ap (λ (l : List Edge). e ∷ l) (numbered n es)

-- a face comes in, over the entries `rest`, and pushes `extra`
known_face : (flags : List Bool) (fs : List Face) (frontier : List Edge) (entries rest : List Entry) (parents : List ℕ)
    → Known flags fs frontier entries parents
    → ((p : Entry → Bool) → count p rest ≤ count p entries)
    → (b : Bool) (f : Face) (p : ℕ) (extra : List Edge)
    → ((q : Edge → Bool) → count q extra ≤ count q (edges_of f))
    → (b ≡ true → p ≡ length fs) → (b ≡ false → (p < length fs) × (runs f.a f.b (face_at fs p) ≡ true))
    → Known (flags ++ (b ∷ [])) (fs ++ (f ∷ [])) (map (λ y. y.along) rest ++ extra) (rest ++ map (entry (length fs)) extra) (parents ++ (p ∷ []))
known_face flags fs frontier entries rest parents h fewer b f p extra own s o = record {
  flagged = omega (arith, h.flagged, length-append flags (b ∷ []), length-append fs (f ∷ []));
  long = omega (arith, h.long, length-append parents (p ∷ []), length-append fs (f ∷ []));
  same_frontier = map-append (λ (y : Entry). y.along) rest (map (entry (length fs)) extra) ∙ ap (λ (l : List Edge). map (λ (y : Entry). y.along) rest ++ l)
      (numbered (length fs) extra);
  entry_known = λ x y j m. known x y j m (either (any (is_entry x y j) rest));
  noted = noted_snoc flags fs parents b f p h.flagged h.long h.noted s o;
}
  where
    known : (x y j : ℕ) → 1 ≤ count (is_entry x y j) (rest ++ map (entry (length fs)) extra)
        → (any (is_entry x y j) rest ≡ true) ⊎ (any (is_entry x y j) rest ≡ false) → (j < length (fs ++ (f ∷ []))) × (runs x y (face_at (fs ++ (f ∷ [])) j) ≡ true)
    known x y j m w = ⊎_elim
        (λ (t : any (is_entry x y j) rest ≡ true).
        let k = h.entry_known x y j (omega (arith, any_true (is_entry x y j) rest t, fewer (is_entry x y j))) in
        let e : face_at (fs ++ (f ∷ [])) j ≡ face_at fs j = get_or-append fs (f ∷ []) no_face j k.0 in
        (omega (arith, k.0, length-append fs (f ∷ [])), ap (runs x y) e ∙ k.1))
        (λ (t : any (is_entry x y j) rest ≡ false).
        let z = any_false (is_entry x y j) rest t in
        let k = pushed x y j (length fs) extra (omega (arith, count_append (is_entry x y j) rest (map (entry (length fs)) extra))) in
        let e : face_at (fs ++ (f ∷ [])) j ≡ f = get_or_at fs f [] no_face j (sym k.0) in
        (omega (arith, k.0, length-append fs (f ∷ [])), ap (runs x y) e ∙ runs_edge x y f (omega (arith, k.1, own (exactly x y)))))
        w

-- ---- a look
seam : (rest : List Entry) (extra frontier : List Edge) → frontier ≡ map (λ y. y.along) rest ++ extra → drop (length rest) frontier ≡ extra
seam rest extra frontier e =
    ap (drop (length rest)) e ∙ ap (λ (k : ℕ). drop k (map (λ (y : Entry). y.along) rest ++ extra))
    (sym (length-map rest (λ (y : Entry). y.along))) ∙ drop-append_seam (map (λ (y : Entry). y.along) rest) extra

module _ {R : Type 0} (rules : Rules R) (pop : Pop) (popEntry : PopEntry) (follows : Follows popEntry pop) (keeps : KeepsEntries popEntry) (r : R)
    (place : ℕ) where
  module _ (t : Trace) (h : KnownTrace t) (x : Entry) (xs : List Entry) (q : t.entries ≡ x ∷ xs) where
    abbrev e : Entry
    e = (popEntry x xs).0

    abbrev rest : List Entry
    rest = (popEntry x xs).1

    abbrev s : State
    s = t.state

    abbrev after : State
    after = look rules pop r e.along (map (λ y. y.along) rest) s

    abbrev n : ℕ
    n = length s.faces

    fewer : (p : Entry → Bool) → bit (p e) + count p rest ≡ count p t.entries
    fewer p = sym (ap (count p) q ∙ keeps x xs p)

    its_face : (e.by < n) × (runs e.along.v1 e.along.v2 (face_at s.faces e.by) ≡ true)
    its_face =
        let o : bit (is_entry e.along.v1 e.along.v2 e.by e)
        ≡ 1 = rw (eq-eqb e.along.v1 e.along.v1 refl, eq-eqb e.along.v2 e.along.v2 refl, eq-eqb e.by e.by refl) in
        h.entry_known e.along.v1 e.along.v2 e.by (omega (arith, fewer (is_entry e.along.v1 e.along.v2 e.by)))

    look_known : KnownTrace (look_trace rules pop popEntry r place e rest t)
    unfolding look_trace
    look_known = go (looked rules pop r e.along (map (λ y. y.along) rest) s)
      where
        go : Looked s after e.along (map (λ y. y.along) rest)
            → Known after.seed_flags after.faces after.frontier (rest ++ map (entry n) (drop (length rest) after.frontier))
            (t.parents ++ replicate (length after.faces - n) e.by)
        go (still a b c) =
            let d : length after.faces - n ≡ 0 = omega (arith, ap length a) in
            let f = seam rest [] after.frontier (c ∙ sym (append-nil (map (λ y. y.along) rest))) in
            known_at b a c
            (ap (λ (l : List Edge). rest ++ map (entry n) l) f ∙ append-nil rest)
            (ap (λ (k : ℕ). t.parents ++ replicate k e.by) d ∙ append-nil t.parents)
            (record {
              flagged = h.flagged;
              long = h.long;
              same_frontier = refl;
              entry_known = λ x y j m. h.entry_known x y j
                  (omega (arith, fewer (is_entry x y j)));
              noted = h.noted;
            })
        go (grew k a b c) =
            let f : Face = face e.along.v1 e.along.v2 k in
            let extra = kept s.processed (edges_of f) in
            let d : length after.faces - n ≡ 1 = omega (arith, ap length a, length-append s.faces (f ∷ [])) in
            known_at b a c
            (ap (λ (l : List Edge). rest ++ map (entry n) l) (seam rest extra after.frontier c))
            (ap (λ (k : ℕ). t.parents ++ replicate k e.by) d)
            (known_face s.seed_flags s.faces s.frontier t.entries rest t.parents h (λ p. omega (arith, fewer p)) false f e.by extra
            (λ p. kept_few p s.processed (edges_of f)) (λ z. absurd (true_not_false refl (sym z))) (λ z. its_face))

    -- the same look as without the numbers
    look_same : (look_trace rules pop popEntry r place e rest t).state ≡ next rules pop r s.frontier s
    unfolding look_trace next
    look_same =
        ap₂ (λ (a : Edge) (b : List Edge). look rules pop r a b s) (follows.first x xs) (follows.rest x xs)
        ∙ ap (λ (l : List Edge). next rules pop r l s) (ap (map (λ (y : Entry). y.along)) (sym q) ∙ h.same_frontier)

  -- with no entry waiting nothing changes
  idle : (t : Trace) → KnownTrace t → t.entries ≡ [] → next rules pop r t.state.frontier t.state ≡ t.state
  unfolding next
  idle t h q = ap (λ (l : List Edge). next rules pop r l t.state) (sym h.same_frontier ∙ ap (map (λ (y : Entry). y.along)) q)

  run_known : (m : ℕ) (t : Trace) → KnownTrace t → KnownTrace (run_trace rules pop popEntry r place m t)
      × ((run_trace rules pop popEntry r place m t).state ≡ run rules pop r m t.state)
  unfolding run_trace next_trace run
  run_known zero t h = (h, refl)
  run_known (suc m) t h = go (λ u. run_known m u) t.entries refl
    where
      go : ((u : Trace) → KnownTrace u → KnownTrace (run_trace rules pop popEntry r place m u)
          × ((run_trace rules pop popEntry r place m u).state ≡ run rules pop r m u.state))
          → (l : List Entry) → t.entries ≡ l
          → KnownTrace (run_trace rules pop popEntry r place m (next_trace rules pop popEntry r place l t))
          × ((run_trace rules pop popEntry r place m (next_trace rules pop popEntry r place l t)).state
          ≡ run rules pop r m (next rules pop r t.state.frontier t.state))
      go ih [] q = let w = ih t h in (w.0, w.1 ∙ ap (run rules pop r m) (sym (idle t h q)))
      go ih (x ∷ xs) q =
          let u = look_trace rules pop popEntry r place (popEntry x xs).0 (popEntry x xs).1 t in
          let w = ih u (look_known t h x xs q) in
          (w.0, w.1 ∙ ap (run rules pop r m) (look_same t h x xs q))

  cleared_known : (t : Trace) → KnownTrace t → Known t.state.seed_flags t.state.faces [] [] t.parents
  cleared_known t h = record { flagged = h.flagged; long = h.long; same_frontier = refl; entry_known = λ x y j m. absurd (omega arith); noted = h.noted }

  seeded_known : (v : ℕ × ℕ × ℕ) (t : Trace) → KnownTrace t → KnownTrace (seeded_trace rules pop popEntry r place v t)
  unfolding seeded_trace seeded cleared with_face
  seeded_known v t h =
      let f : Face = face v.0 v.1 v.2 in
      let n = length t.state.faces in
      let c = push_kept [] [] (edges_of f) in
      known_at refl refl c (ap (map (entry n)) c) refl
      (known_face t.state.seed_flags t.state.faces [] [] [] t.parents (cleared_known t h) (λ p. omega arith) true f n (kept [] (edges_of f))
      (λ p. kept_few p [] (edges_of f)) (λ z. refl) (λ z. absurd (true_not_false refl z)))

  cleared_trace : (t : Trace) → KnownTrace t → KnownTrace (record { state = cleared t.state; entries = []; parents = t.parents; places = t.places })
  unfolding cleared
  cleared_trace t h = cleared_known t h

  pub begun_known : (n : ℕ) (o : Option (ℕ × ℕ × ℕ)) (t : Trace) → KnownTrace t → KnownTrace (begun_trace rules pop popEntry r place n o t)
      × ((begun_trace rules pop popEntry r place n o t).state ≡ begun rules pop r n o (cleared t.state))
  unfolding begun_trace begun seeded_trace
  begun_known n none t h = (cleared_trace t h, refl)
  begun_known n (some v) t h = run_known (3 * n) (seeded_trace rules pop popEntry r place v t) (seeded_known v t h)

module _ {R : Type 0} (rules : Rules R) (pop : Pop) (popEntry : PopEntry) (follows : Follows popEntry pop) (keeps : KeepsEntries popEntry) (n : ℕ) where
  pub all_known : (place : ℕ) (rs : List R) (t : Trace) → KnownTrace t → KnownTrace (trace_from rules pop popEntry n place rs t)
      × ((trace_from rules pop popEntry n place rs t).state ≡ lay_all rules pop n rs t.state)
  unfolding trace_from lay_all lay_one
  all_known place [] t h = (h, refl)
  all_known place (r ∷ rs) t h =
      let b = begun_known rules pop popEntry follows keeps r place n (rules.seed_of r t.state.used) t h in
      let w = all_known (suc place) rs (begun_trace rules pop popEntry r place n (rules.seed_of r t.state.used) t) b.0 in
      (w.0, w.1 ∙ ap (lay_all rules pop n rs) b.1)

  pub blank_known : KnownTrace (blank_trace n)
  blank_known = record { flagged = refl; long = refl; same_frontier = refl; entry_known = λ x y j m. absurd (omega arith); noted = λ i h. absurd (omega arith) }

  pub trace_known : (rs : List R) → KnownTrace (trace rules pop popEntry n rs)
  unfolding trace
  trace_known rs = (all_known 0 rs (blank_trace n) blank_known).0

  -- the numbers change nothing
  pub trace_state : (rs : List R) → (trace rules pop popEntry n rs).state ≡ patch rules pop n rs
  unfolding trace patch
  trace_state rs = (all_known 0 rs (blank_trace n) blank_known).1

  -- and what they note is what the faces tell
  module _ (fair : Fair n rules) (keeps-edges : Keeps pop) (rs : List R) where
    abbrev t : Trace
    t = trace rules pop popEntry n rs

    shape : Shaped t.state
    shape = subst Shaped (sym (trace_state rs)) (patch_shape n rules pop fair keeps-edges rs)

    running : Running t.state
    running = subst Running (sym (trace_state rs)) (patch_running rules pop keeps-edges n rs)

    pub trace_parents : (i : ℕ) → i < length t.state.faces → get_or t.parents i 0 ≡ parent_of t.state.faces i
    trace_parents i b = ⊎_elim
        (λ (z : get_or t.state.seed_flags i false ≡ true). ((trace_known rs).noted i b).seed z ∙ sym (seed_parent t.state shape running i b z))
        (λ (z : get_or t.state.seed_flags i false ≡ false).
        let q = ((trace_known rs).noted i b).other z in
        parent_only t.state shape running i (get_or t.parents i 0) b z q.0
        (runs_has (face_at t.state.faces i).a (face_at t.state.faces i).b (face_at t.state.faces (get_or t.parents i 0)) q.1))
        (either (get_or t.state.seed_flags i false))

-- ---- our orders
module _ (d : Entry) where
  abbrev bare : List Entry → List Edge
  bare xs = map (λ (y : Entry). y.along) xs

  bare_set : (xs : List Entry) (i : ℕ) (v : Entry) → bare (set xs i v) ≡ set (bare xs) i v.along
  bare_set [] i v = refl
  bare_set (x ∷ xs) zero v = refl
  bare_set (x ∷ xs) (suc i) v = ap (λ (l : List Edge). x.along ∷ l) (bare_set xs i v)

  bare_at : (xs : List Entry) (i : ℕ) → (get_or xs i d).along ≡ get_or (bare xs) i d.along
  bare_at xs i = sym (get_or-map (λ (y : Entry). y.along) xs i d)

  bare_cond : (b : Bool) (x y : List Entry) (x' y' : List Edge) → bare x ≡ x' → bare y ≡ y' → bare (cond b x y) ≡ cond b x' y'
  bare_cond true x y x' y' h k = h
  bare_cond false x y x' y' h k = k

  bare_take : (m : ℕ) (xs : List Entry) → bare (take m xs) ≡ take m (bare xs)
  bare_take zero xs = refl
  bare_take (suc m) [] = refl
  bare_take (suc m) (x ∷ xs) = ap (λ (l : List Edge). x.along ∷ l) (bare_take m xs)

  bare_long : (xs : List Entry) → length xs ≡ length (bare xs)
  bare_long xs = sym (length-map xs (λ (y : Entry). y.along))

  -- the entry at j goes to i
  bare_move : (xs : List Entry) (i j : ℕ) → bare (set xs i (get_or xs j d)) ≡ set (bare xs) i (get_or (bare xs) j d.along)
  bare_move xs i j = bare_set xs i (get_or xs j d) ∙ ap (λ (z : Edge). set (bare xs) i z) (bare_at xs j)

  bare_sift : (fuel : ℕ) (xs : List Entry) (p : ℕ) (v : Entry) → bare (sift d fuel xs p v) ≡ sift d.along fuel (bare xs) p v.along
  unfolding sift
  bare_sift zero xs p v = bare_set xs p v
  bare_sift (suc fuel) xs p v =
      let two = set xs p (get_or xs (p + p + 2) d) in
      let one = set xs p (get_or xs (p + p + 1) d) in
      let right = sift d.along fuel (set (bare xs) p (get_or (bare xs) (p + p + 2) d.along)) (p + p + 2) v.along in
      let left = set (set (bare xs) p (get_or (bare xs) (p + p + 1) d.along)) (p + p + 1) v.along in
      bare_cond (ltb (p + p + 2) (length xs)) (sift d fuel two (p + p + 2) v) (cond (ltb (p + p + 1) (length xs)) (set one (p + p + 1) v) (set xs p v)) right
      (cond (ltb (p + p + 1) (length xs)) left (set (bare xs) p v.along))
      (bare_sift fuel two (p + p + 2) v ∙ ap (λ (l : List Edge). sift d.along fuel l (p + p + 2) v.along) (bare_move xs p (p + p + 2)))
      (bare_cond (ltb (p + p + 1) (length xs)) (set one (p + p + 1) v) (set xs p v) left (set (bare xs) p v.along)
      (bare_set one (p + p + 1) v ∙ ap (λ (l : List Edge). set l (p + p + 1) v.along) (bare_move xs p (p + p + 1)))
      (bare_set xs p v))
      ∙ ap (λ (k : ℕ). cond (ltb (p + p + 2) k) right (cond (ltb (p + p + 1) k) left (set (bare xs) p v.along))) (bare_long xs)

  bare_after : (xs : List Entry) → bare (after_pop d xs) ≡ after_pop d.along (bare xs)
  unfolding after_pop
  bare_after xs =
      let m = length xs - 1 in
      bare_cond (eqb m 0) [] (sift d m (take m xs) 0 (get_or xs m d)) [] (sift d.along m (take m (bare xs)) 0 (get_or (bare xs) m d.along)) refl
      (bare_sift m (take m xs) 0 (get_or xs m d) ∙ ap₂ (λ (l : List Edge) (z : Edge). sift d.along m l 0 z) (bare_take m xs) (bare_at xs m))
      ∙ ap (λ (k : ℕ). cond (eqb (k - 1) 0) [] (sift d.along (k - 1) (take (k - 1) (bare xs)) 0 (get_or (bare xs) (k - 1) d.along))) (bare_long xs)

  bare_waiting : (rule : ℕ) (x : Entry) (xs : List Entry) → bare (waiting_after d rule x xs) ≡ waiting_after d.along rule x.along (bare xs)
  unfolding waiting_after
  bare_waiting rule x xs = bare_cond (eqb rule 2) xs (after_pop d (x ∷ xs)) (bare xs) (after_pop d.along (bare (x ∷ xs))) refl (bare_after (x ∷ xs))

pub pop_entry_of_follows : (rule : ℕ) → Follows (pop_entry_of rule) (pop_of rule)
pop_entry_of_follows rule = record { first = λ x xs. refl; rest = λ x xs. bare_waiting (entry 0 no_edge) rule x xs }

pub pop_entry_of_keeps : (rule : ℕ) → KeepsEntries (pop_entry_of rule)
unfolding waiting_after
pop_entry_of_keeps rule x xs p = ⊎_elim
    (λ (h : eqb rule 2 ≡ true). rw h)
    (λ (h : eqb rule 2 ≡ false). rw h (pop_count (entry 0 no_edge) p x xs))
    (either (eqb rule 2))
