-- Every patch has the shape, whatever the floats decide and in whatever order entries are popped, if it loses and
-- repeats none; the bound on looks is never too small, and the source's stop above 50,000 faces never bites. Also what
-- holds between two looks, for the code. Assumes nothing.
use Prim.Native.Nat.{ℕ, zero, suc, ◌+◌, ◌*◌, ◌≤◌, ◌<◌}
use mathlib.Core.Path.{◌≡◌, refl, ap, ◌∙◌}
use mathlib.Core.Bool.{Bool, true, false}
use mathlib.Core.List.{List, [], ◌∷◌}
use mathlib.Core.Option.{Option, none, some}
use native.Mathlib.Omega.{arith}
use lib.Dec.{eqb}
use lib.ListN.{length, get_or, replicate, length-replicate}
use Rattle.lists.specs.Lists.{bit, count, any}
use Rattle.patch.specs.Lay.{Edge, same, State, seeds_of, Rules, Pop, popped, met, pivoted, seeded, cleared, looked_at, look, next, run, begun, lay_one}
use Rattle.patch.specs.Lay.{lay_all, blank, patch}
use Rattle.patch.specs.Fair.{Fair, Keeps, Shaped}
use Rattle.patch.specs.Shape.{touches, has}
use Rattle.lists.proofs.Counts.{any_true, true_any, pigeons}
use Rattle.patch.proofs.Edges.{laid_v1, laid_v2}
use Rattle.patch.specs.Inner.Invariant.{Inv, waiting, Rest}
use Rattle.patch.proofs.Inv.{touched_used}
use Rattle.patch.proofs.Looks.{Looked, skip_looked, miss_looked, grow_looked, clear_inv, seed_inv, seed_frontier}

-- ---- between two looks

-- how long the lists are
pub record Room (n : ℕ) (s : State) : Type 0 where
  pub faces : length s.faces + 2 * seeds_of s ≤ n
  pub used : length s.used ≡ n
  -- those that were popped and those that wait
  pub entries : s.looks + length s.frontier ≤ 3 * n
  pub processed : length s.processed ≤ 2 * n
  pub looks : s.looks ≤ 3 * n
  pub pivots : s.pivots ≤ 2 * n

module _ (n : ℕ) (s : State) (inv : Inv n s) where
  pub few : length s.faces + 2 * seeds_of s ≤ n
  few = omega (arith, inv.points_count, pigeons n inv.points (λ x. (inv.pointwise x).once) (λ x. (inv.pointwise x).used_below))

  pub room : Room n s
  room = record {
    faces = few;
    used = inv.wide;
    entries = omega (arith, few, inv.looked);
    processed = omega (arith, few, inv.processed_few, inv.pivoted);
    looks = omega (arith, few, inv.looked);
    pivots = omega (arith, few, inv.pivoted);
  }

  -- an entry's points are points of the cloud
  pub entry_below : (e : Edge) → 1 ≤ count (same e) s.frontier → (e.v1 < n) × (e.v2 < n)
  entry_below e h =
      let w = inv.edgewise e in
      let point : (x : ℕ) → 1 ≤ count (touches x) s.faces → x < n = λ x m. (inv.pointwise x).used_below (touched_used n x _ _ (inv.pointwise x) m) in
      (point e.v1 (omega (arith, laid_v1 e s.faces)), point e.v2 (omega (arith, laid_v2 e s.faces)))

nil : {A : Type 0} (xs : List A) → length xs ≤ 0 → xs ≡ []
nil [] h = refl
nil (x ∷ xs) h = absurd (omega arith)

module _ {R : Type 0} (n : ℕ) (rules : Rules R) (order : Pop) (fair : Fair n rules) (keeps : Keeps order) (r : R) where
  -- one look
  module _ (s : State) (inv : Inv n s) (x : Edge) (xs : List Edge) (wait : s.frontier ≡ x ∷ xs) where
    abbrev e : Edge
    e = (order x xs).0

    abbrev rest : List Edge
    rest = (order x xs).1

    pop : (p : Edge → Bool) → count p s.frontier ≡ bit (p e) + count p rest
    pop p = ap (count p) wait ∙ keeps x xs p

    met_looked : any (same e) s.processed ≡ false → (o : Option ℕ) → rules.pivot_of r s.used e ≡ o → Looked n s (pivoted e (met e o (popped rest s)))
    met_looked h none q = miss_looked n s inv e rest pop h
    met_looked h (some k) q = grow_looked n s inv e rest pop h k (fair.pivots r s.used e k q)

    judged_looked : (b : Bool) → any (same e) s.processed ≡ b → Looked n s (looked_at rules order r b e (popped rest s))
    unfolding looked_at popped
    judged_looked true h = skip_looked n s inv e rest pop h _ _ (omega arith) (omega arith)
    judged_looked false h = met_looked h (rules.pivot_of r s.used e) refl

    pub look_looked : Looked n s (look rules order r e rest s)
    unfolding look
    look_looked = judged_looked (any (same e) s.processed) refl

  -- with no entry waiting nothing changes
  pub run_idle : (m : ℕ) (s : State) → s.frontier ≡ [] → run rules order r m s ≡ s
  unfolding run next
  run_idle zero s h = refl
  run_idle (suc m) s h = ap (λ (l : List Edge). run rules order r m (next rules order r l s)) h ∙ run_idle m s h

  pub run_rest : (m : ℕ) (s : State) → Inv n s → length s.frontier + 3 * n ≤ m + 3 * length s.faces → Rest n (run rules order r m s)
  unfolding run next
  run_rest zero s inv enough = record { inv = inv; idle = nil s.frontier (omega (arith, few n s inv)) }
  run_rest (suc m) s inv enough = go (λ t. run_rest m t) s.frontier refl
    where
      go : ((t : State) → Inv n t → length t.frontier + 3 * n ≤ m + 3 * length t.faces → Rest n (run rules order r m t)) → (l : List Edge) → s.frontier
          ≡ l → Rest n (run rules order r m (next rules order r l s))
      go ih [] q = rw (run_idle m s q) (record { inv = inv; idle = q })
      go ih (x ∷ xs) q = let t = look_looked s inv x xs q in ih (look rules order r (order x xs).0 (order x xs).1 s) t.inv (omega (arith, t.falls))

  begun_rest : (s : State) → Rest n s → (o : Option (ℕ × ℕ × ℕ)) → rules.seed_of r s.used ≡ o → Rest n (begun rules order r n o (cleared s))
  unfolding begun cleared
  begun_rest s h none q = record { inv = clear_inv n s h.inv h.idle; idle = refl }
  begun_rest s h (some t) q =
      let free = fair.seeds r s.used t q in
      run_rest _ (seeded t (cleared s)) (seed_inv n s h.inv h.idle t free) (omega (arith, seed_frontier n s h.inv h.idle t free))

  pub lay_one_rest : (s : State) → Rest n s → Rest n (lay_one rules order n r s)
  unfolding lay_one
  lay_one_rest s h = begun_rest s h (rules.seed_of r s.used) refl

pub lay_all_rest : {R : Type 0} (n : ℕ) (rules : Rules R) (order : Pop) → Fair n rules → Keeps order → (rs : List R) (s : State) → Rest n s
    → Rest n (lay_all rules order n rs s)
unfolding lay_all
lay_all_rest n rules order fair keeps [] s h = h
lay_all_rest n rules order fair keeps (r ∷ rs) s h =
    lay_all_rest n rules order fair keeps rs (lay_one rules order n r s) (lay_one_rest n rules order fair keeps r s h)

no_flag : (n x : ℕ) → ◌≡◌ {A = ℕ} (get_or (replicate n 0) x 0) 0
no_flag zero x = refl
no_flag (suc n) zero = refl
no_flag (suc n) (suc x) = no_flag n x

pub blank_rest : (n : ℕ) → Rest n (blank n)
blank_rest n = record {
  inv = record {
    edges = [];
    edgewise = λ e. omega arith;
    straight = λ x. refl;
    edges_count = refl;
    points = [];
    flags = no_flag n;
    wide = length-replicate n 0;
    pointwise = λ x. record {
      once = omega arith;
      used_below = λ h. absurd (omega arith);
      used_touched = λ h. absurd
          (omega arith);
      unused_untouched = λ h. refl;
    };
    points_count = refl;
    flagged = refl;
    each = λ i h. absurd (omega arith);
    processed_few = omega arith;
    looked = refl;
    pivoted = refl;
  };
  idle = refl;
}

rest_shape : (n : ℕ) (s : State) → Rest n s → Shaped s
rest_shape n s h =
    let inv = h.inv in
    record {
      number = refl;
      flagged = inv.flagged;
      seeds = refl;
      each = inv.each;
      points = record {
        list = inv.points;
        once = λ x. (inv.pointwise x).once;
        complete = λ x. (
          λ m. true_any (touches x) s.faces ((inv.pointwise x).used_touched m),
          λ t. touched_used n x (count (eqb x) inv.points)
              (count (touches x) s.faces) (inv.pointwise x) (any_true (touches x) s.faces t),
        );
        many = inv.points_count;
      };
      edges = record {
        list = inv.edges;
        once = λ e. (inv.edgewise e).listed_once;
        complete = λ e. let w = inv.edgewise e in (λ m. true_any (has e) s.faces (omega arith), λ t. let l = any_true (has e) s.faces t in omega arith);
        many = inv.edges_count;
      };
      one_or_two = λ e t. let w = inv.edgewise e in let l = any_true (has e) s.faces t in (l, omega arith);
      looks_count = omega (arith, inv.looked, ap length h.idle);
      pivots_count = omega (arith, inv.pivoted, ap (count (waiting s.processed)) h.idle);
    }

-- ---- the theorems
module _ {R : Type 0} (n : ℕ) (rules : Rules R) (order : Pop) (fair : Fair n rules) (keeps : Keeps order) (rs : List R) where
  patch_rest : Rest n (patch rules order n rs)
  unfolding patch
  patch_rest = lay_all_rest n rules order fair keeps rs (blank n) (blank_rest n)

  -- the one claim
  pub patch_shape : Shaped (patch rules order n rs)
  patch_shape = rest_shape n (patch rules order n rs) patch_rest

  -- the looks went on until no entry waited
  pub finished : (patch rules order n rs).frontier ≡ []
  finished = patch_rest.idle

  -- F + 2S ≤ n
  pub patch_few : length (patch rules order n rs).faces + 2 * seeds_of (patch rules order n rs) ≤ n
  patch_few = few n (patch rules order n rs) patch_rest.inv

  pub never_stopped : n ≤ 4096 → length (patch rules order n rs).faces ≤ 50000
  never_stopped h = omega (arith, patch_few)
