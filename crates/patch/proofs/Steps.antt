-- What keeps the invariant, once for every kind of step: the faces stay, edges in hand become processed, a face comes
-- in. Assumes nothing.
use Prim.Native.Nat.{ℕ, ◌+◌, ◌*◌, ◌≤◌}
use mathlib.Core.Path.{◌≡◌, refl, sym, ap, ◌∙◌, subst}
use mathlib.Core.Logic.{⊎_elim}
use mathlib.Core.Bool.{Bool, true, false, not}
use mathlib.Core.List.{List, [], ◌∷◌, ◌++◌}
use native.Mathlib.Omega.{arith}
use lib.Dec.{eqb}
use lib.ListN.{length, length-append}
use Rattle.lists.specs.Lists.{bit, count, any}
use Rattle.patch.specs.Lay.{Edge, edge, same, Face, edges_of, State, seeds_of, push, marked}
use Rattle.patch.specs.Fair.{Free}
use Rattle.patch.specs.Shape.{touches, has, Laid}
use Rattle.lists.proofs.Bools.{either, not-true}
use Rattle.lists.proofs.Counts.{any_true, any_false, true_any, false_any, count_append, count_all}
use Rattle.patch.proofs.Edges.{same_refl, Distinct, one_edge, has_bit, has_straight}
use Rattle.patch.specs.Inner.Invariant.{Edgewise, Pointwise, waiting, Inv}
use Rattle.patch.proofs.Inv.{edge_miss, edge_grow, each_snoc, edge_at, point_more, point_at_lem, length_marked, marked_flags}

-- two tests that agree on the edges of a list count alike there
pub count_agree : (p q : Edge → Bool) (xs : List Edge) → ((g : Edge) → 1 ≤ count (same g) xs → p g ≡ q g) → count p xs ≡ count q xs
count_agree p q [] h = refl
count_agree p q (x ∷ xs) h =
    let self : bit (same x x) ≡ 1 = ap bit (same_refl x) in
    let here : bit (p x) ≡ bit (q x) = ap bit (h x (omega arith)) in
    let ih = count_agree p q xs (λ g m. h g (omega arith)) in
    omega arith

-- edges of which none is processed all come in
pub push_count : (processed : List Edge) (p : Edge → Bool) (frontier es : List Edge) → ((g : Edge) → 1 ≤ count (same g) es → count (same g) processed ≡ 0)
    → count p (push processed frontier es) ≡ count p frontier + count p es
unfolding push
push_count processed p frontier [] h = omega arith
push_count processed p frontier (e ∷ es) h =
    let self : bit (same e e) ≡ 1 = ap bit (same_refl e) in
    let new = false_any (same e) processed (h e (omega arith)) in
    let ih = push_count processed p (frontier ++ (e ∷ [])) es (λ g m. h g (omega arith)) in
    rw new (omega (arith, count_append p frontier (e ∷ [])))

module _ (n : ℕ) (s : State) (inv : Inv n s) where
  -- the faces and the used points stay
  pub still : (frontier processed : List Edge) (looks pivots : ℕ)
      → ((g : Edge) → Edgewise (count (has g) s.faces) (count (same g) frontier) (count (same g) processed) (count (same g) inv.edges))
      → length processed ≤ pivots
      → looks + length frontier ≡ 3 * length s.faces
      → pivots + count (waiting processed) frontier ≡ 2 * length s.faces + seeds_of s
      → Inv n (record {
        faces = s.faces;
        seed_flags = s.seed_flags;
        used = s.used;
        frontier = frontier;
        processed = processed;
        looks = looks;
        pivots = pivots;
      })
  still frontier processed looks pivots edgewise few looked pivoted = record {
    edges = inv.edges;
    edgewise = edgewise;
    straight = inv.straight;
    edges_count = inv.edges_count;
    points = inv.points;
    flags = inv.flags;
    wide = inv.wide;
    pointwise = inv.pointwise;
    points_count = inv.points_count;
    flagged = inv.flagged;
    each = inv.each;
    processed_few = few;
    looked = looked;
    pivoted = pivoted;
  }

  -- the entries in hand were popped, none of them processed: one for a pivot, none for a seed
  module _ (hand rest : List Edge) (pop : (p : Edge → Bool) → count p s.frontier ≡ count p hand + count p rest)
      (fresh : (g : Edge) → count (same g) s.processed + count (same g) hand ≤ 1) where
    abbrev pub done : List Edge
    done = s.processed ++ hand

    pub popped_length : length s.frontier ≡ length hand + length rest
    popped_length = omega (arith, pop (λ x. true), count_all s.frontier, count_all hand, count_all rest)

    pub before : (g : Edge)
        → Edgewise (count (has g) s.faces) (count (same g) hand + count (same g) rest) (count (same g) s.processed) (count (same g) inv.edges)
    before g = subst (λ m. Edgewise (count (has g) s.faces) m (count (same g) s.processed) (count (same g) inv.edges)) (pop (same g)) (inv.edgewise g)

    pub done_count : (g : Edge) → count (same g) done ≡ count (same g) s.processed + count (same g) hand
    done_count g = count_append (same g) s.processed hand

    -- those in hand waited
    pub hand_waited : count (waiting s.processed) hand ≡ length hand
    hand_waited = count_agree (waiting s.processed) (λ g. true) hand
        (λ g m. ap not (false_any (same g) s.processed (omega (arith, fresh g)))) ∙ count_all hand

    -- what else waited still waits
    pub rest_waits : count (waiting done) rest ≡ count (waiting s.processed) rest
    rest_waits = count_agree (waiting done) (waiting s.processed) rest (λ g m. ap not (longer g (omega (arith, before g))))
      where
        longer : (g : Edge) → count (same g) hand ≡ 0 → any (same g) done ≡ any (same g) s.processed
        longer g z = ⊎_elim
            (λ (u : any (same g) s.processed ≡ true). true_any (same g) done (omega (arith, done_count g, any_true (same g) s.processed u)) ∙ sym u)
            (λ (u : any (same g) s.processed ≡ false). false_any (same g) done (omega (arith, done_count g, any_false (same g) s.processed u)) ∙ sym u)
            (either (any (same g) s.processed))

    pub missed : (looks pivots : ℕ) → looks ≡ s.looks + length hand → pivots ≡ s.pivots + length hand
        → Inv n (record { faces = s.faces; seed_flags = s.seed_flags; used = s.used; frontier = rest; processed = done; looks = looks; pivots = pivots })
    missed looks pivots l p = still rest done looks pivots
        (λ g. edge_at refl refl (done_count g) refl
        (edge_miss (count (has g) s.faces) (count (same g) rest) (count (same g) s.processed) (count (same g) inv.edges) (count (same g) hand)
        (fresh g) (before g)))
        (omega (arith, inv.processed_few, length-append s.processed hand))
        (omega (arith, inv.looked, popped_length))
        (omega (arith, inv.pivoted, pop (waiting s.processed), rest_waits, hand_waited))

    -- the face f comes in: its edges are those in hand and new ones, its points the free ones ks and used ones
    pub record Comes (seed : Bool) (ks : List ℕ) (f : Face) : Type 0 where
      pub distinct : Distinct f
      pub laid : Laid seed s.faces f
      pub new : List Edge
      pub new_many : length new ≡ 2 + bit seed
      pub new_clear : (g : Edge) → 1 ≤ count (same g) new → count (has g) s.faces ≡ 0
      pub split : (p : Edge → Bool) → count p (edges_of f) ≡ count p hand + count p new
      pub ks_many : length ks ≡ 1 + 2 * bit seed
      pub ks_once : (x : ℕ) → count (eqb x) ks ≤ 1
      pub ks_free : (x : ℕ) → 1 ≤ count (eqb x) ks → Free n s.used x
      pub ks_touched : (x : ℕ) → 1 ≤ count (eqb x) ks → touches x f ≡ true
      pub others_used : (x : ℕ) → count (eqb x) ks ≡ 0 → touches x f ≡ true → 1 ≤ count (eqb x) inv.points

    module _ (seed : Bool) (ks : List ℕ) (f : Face) (c : Comes seed ks f) where
      new_unprocessed : (g : Edge) → 1 ≤ count (same g) c.new → count (same g) done ≡ 0
      new_unprocessed g m =
          let one = one_edge f c.distinct g in
          omega (arith, c.new_clear g m, c.split (same g), done_count g, before g)

      unprocessed : (g : Edge) → 1 ≤ count (same g) (edges_of f) → count (same g) s.processed ≡ 0
      unprocessed g m = ⊎_elim
          (λ (t : any (same g) c.new ≡ true). omega (arith, new_unprocessed g (any_true (same g) c.new t), done_count g))
          (λ (t : any (same g) c.new ≡ false). omega (arith, any_false (same g) c.new t, c.split (same g), fresh g))
          (either (any (same g) c.new))

      entries : (p : Edge → Bool) → count p (push s.processed rest (edges_of f)) ≡ count p rest + count p (edges_of f)
      entries p = push_count s.processed p rest (edges_of f) unprocessed

      pub entries_length : length (push s.processed rest (edges_of f)) ≡ length rest + 3
      entries_length = omega (arith, entries (λ x. true), count_all rest, count_all (push s.processed rest (edges_of f)))

      -- the edges in hand are processed, though they wait again
      hand_done : count (waiting done) hand ≡ 0
      hand_done = count_agree (waiting done) (λ g. false) hand (λ g m. ap not (true_any (same g) done (omega (arith, done_count g)))) ∙ none_pass hand
        where
          none_pass : (xs : List Edge) → count (λ g. false) xs ≡ 0
          none_pass [] = refl
          none_pass (x ∷ xs) = let ih = none_pass xs in omega arith

      new_waits : count (waiting done) c.new ≡ length c.new
      new_waits = count_agree (waiting done) (λ g. true) c.new (λ g m. ap not (false_any (same g) done (new_unprocessed g m))) ∙ count_all c.new

      edge_by_edge : (g : Edge)
          → Edgewise (count (has g) (s.faces ++ (f ∷ []))) (count (same g) (push s.processed rest (edges_of f))) (count (same g) done)
          (count (same g) (c.new ++ inv.edges))
      edge_by_edge g =
          let one = one_edge f c.distinct g in
          edge_at
          (omega (arith, count_append (has g) s.faces (f ∷ []), has_bit f c.distinct g, c.split (same g)))
          (omega (arith, entries (same g), c.split (same g)))
          (done_count g)
          (count_append (same g) c.new inv.edges)
          (edge_grow (count (has g) s.faces) (count (same g) rest) (count (same g) s.processed) (count (same g) inv.edges) (count (same g) hand)
          (count (same g) c.new) (fresh g) (omega (arith, c.split (same g))) (c.new_clear g) (before g))

      unlisted : (x : ℕ) → 1 ≤ count (eqb x) ks → count (eqb x) inv.points ≡ 0
      unlisted x m = sym (inv.flags x) ∙ (c.ks_free x m).unused

      point_by_point : (x : ℕ) → Pointwise n x (count (eqb x) (ks ++ inv.points)) (count (touches x) (s.faces ++ (f ∷ [])))
      point_by_point x =
          point_at_lem
          (count_append (eqb x) ks inv.points)
          (omega (arith, count_append (touches x) s.faces (f ∷ [])))
          (point_more n x (count (eqb x) inv.points) (count (touches x) s.faces) (count (eqb x) ks) (bit (touches x f)) (inv.pointwise x) (c.ks_once x)
          (λ m. let o : bit (touches x f) ≡ 1 = ap bit (c.ks_touched x m) in (unlisted x m, (c.ks_free x m).below, omega arith))
          (λ z u. ap bit (not-true (λ (t : touches x f ≡ true). let k = c.others_used x z t in omega arith))))

      pub grown : (looks pivots : ℕ) → looks ≡ s.looks + length hand → pivots ≡ s.pivots + length hand
          → Inv n (record {
            faces = s.faces ++ (f ∷ []);
            seed_flags = s.seed_flags
                ++ (seed ∷ []);
            used = marked s.used ks;
            frontier = push s.processed rest (edges_of f);
            processed = done;
            looks = looks;
            pivots = pivots;
          })
      grown looks pivots l p =
          let faces-more = length-append s.faces (f ∷ []) in
          let seeds-more = count_append (λ (b : Bool). b) s.seed_flags (seed ∷ []) in
          record {
            edges = c.new ++ inv.edges;
            edgewise = edge_by_edge;
            straight = λ x. omega (arith, count_append (has (edge x x)) s.faces (f ∷ []), inv.straight x, ap bit (has_straight x f c.distinct));
            edges_count = omega (arith, length-append c.new inv.edges, c.new_many, inv.edges_count);
            points = ks ++ inv.points;
            flags = marked_flags ks s.used inv.points inv.flags c.ks_once (λ x m. (omega (arith, inv.wide, (c.ks_free x m).below), unlisted x m));
            wide = length_marked s.used ks ∙ inv.wide;
            pointwise = point_by_point;
            points_count = omega (arith, length-append ks inv.points, c.ks_many, inv.points_count);
            flagged = omega (arith, length-append s.seed_flags (seed ∷ []), inv.flagged);
            each = each_snoc s.seed_flags s.faces seed f inv.flagged inv.each c.laid;
            processed_few = omega (arith, inv.processed_few, length-append s.processed hand);
            looked = omega (arith, inv.looked, popped_length, entries_length);
            pivoted = omega (
              arith,
              inv.pivoted,
              pop (waiting s.processed),
              rest_waits,
              hand_waited,
              entries (waiting done),
              c.split
                  (waiting done),
              hand_done,
              new_waits,
              c.new_many,
            );
          }
