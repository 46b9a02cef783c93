-- The edge ratio in each order is at least that of the longer of two edges to the third one (`edges_bounded`), and of
-- edges of which one is not longer than s at least that of what they are not shorter than to s (`edges_from`). Assumes
-- nothing.
use mathlib.Core.Bool.{Bool, true, false, cond}
use lib.Dec.{T}
use lib.Ieee.{Float, nan, inf, lt, le, is_nan}
use lib.Ieee.Positive.{positive, positive-finite}
use Rattle.numbers.specs.Rounded.{◌⊘◌}
use Rattle.numbers.specs.Order.{minimum, maximum}
use Rattle.numbers.proofs.Above.{positive_signless}
use Rattle.numbers.proofs.OrderLaws.{le_trans, le_top}
use Rattle.numbers.proofs.QuotientOrder.{div_monotone}
use Rattle.numbers.proofs.Minimum.{minimum_either}
use Rattle.quality.specs.Measures.{tiny, least, largest, edge_ratio}
use Rattle.six_orders.specs.Inner.SixOrders.{InOrder, abc, acb, bac, bca, cab, cba, NotShorter, OneUpTo, first, second, third, EdgeBound, EdgeFrom}
use Rattle.six_orders.proofs.Positive.{number, div_falls, least_first, least_second, least_third, largest_first, largest_second, largest_third}
use Rattle.six_orders.proofs.Positive.{maximum_either}

pub no_edge_bound : (a b c : Float) → EdgeBound a b c nan
no_edge_bound a b c = record { above = λ n. absurd (unfold is_nan in n); least = λ u v w o n. absurd (unfold is_nan in n) }

least_positive : (u v w : Float) → T (positive u) → T (positive v) → T (positive w) → T (positive (least u v w))
unfolding least
least_positive u v w p q r = let P : Float → Type 0 = λ x. T (positive x) in minimum_either P (minimum u v) w (minimum_either P u v p q) r

largest_positive : (u v w : Float) → T (positive u) → T (positive v) → T (positive w) → T (positive (largest u v w))
unfolding largest
largest_positive u v w p q r = let P : Float → Type 0 = λ x. T (positive x) in maximum_either P (maximum u v) w (maximum_either P u v p q) r

module _ (a b c : Float) (pa : T (positive a)) (pb : T (positive b)) (pc : T (positive c)) where
  -- what is known of edges in some order
  record Known (u v w : Float) : Type 0 where
    first : T (positive u)
    second : T (positive v)
    third : T (positive w)
    a_shortest : T (le (least u v w) a)
    b_shortest : T (le (least u v w) b)
    c_shortest : T (le (least u v w) c)
    a_longest : T (le a (largest u v w))
    b_longest : T (le b (largest u v w))
    c_longest : T (le c (largest u v w))

  known : {u v w : Float} → InOrder a b c u v w → Known u v w
  known abc = record {
    first = pa;
    second = pb;
    third = pc;
    a_shortest = least_first a b c (number a pa);
    b_shortest = least_second a b c
        (number b pb);
    c_shortest = least_third a b c (number c pc);
    a_longest = largest_first a b c (number a pa);
    b_longest = largest_second a b c
        (number b pb);
    c_longest = largest_third a b c (number c pc);
  }
  known acb = record {
    first = pa;
    second = pc;
    third = pb;
    a_shortest = least_first a c b (number a pa);
    b_shortest = least_third a c b
        (number b pb);
    c_shortest = least_second a c b (number c pc);
    a_longest = largest_first a c b (number a pa);
    b_longest = largest_third a c b
        (number b pb);
    c_longest = largest_second a c b (number c pc);
  }
  known bac = record {
    first = pb;
    second = pa;
    third = pc;
    a_shortest = least_second b a c (number a pa);
    b_shortest = least_first b a c
        (number b pb);
    c_shortest = least_third b a c (number c pc);
    a_longest = largest_second b a c (number a pa);
    b_longest = largest_first b a c
        (number b pb);
    c_longest = largest_third b a c (number c pc);
  }
  known bca = record {
    first = pb;
    second = pc;
    third = pa;
    a_shortest = least_third b c a (number a pa);
    b_shortest = least_first b c a
        (number b pb);
    c_shortest = least_second b c a (number c pc);
    a_longest = largest_third b c a (number a pa);
    b_longest = largest_first b c a
        (number b pb);
    c_longest = largest_second b c a (number c pc);
  }
  known cab = record {
    first = pc;
    second = pa;
    third = pb;
    a_shortest = least_second c a b (number a pa);
    b_shortest = least_third c a b
        (number b pb);
    c_shortest = least_first c a b (number c pc);
    a_longest = largest_second c a b (number a pa);
    b_longest = largest_third c a b
        (number b pb);
    c_longest = largest_first c a b (number c pc);
  }
  known cba = record {
    first = pc;
    second = pb;
    third = pa;
    a_shortest = least_third c b a (number a pa);
    b_shortest = least_second c b a
        (number b pb);
    c_shortest = least_first c b a (number c pc);
    a_longest = largest_third c b a (number a pa);
    b_longest = largest_second c b a
        (number b pb);
    c_longest = largest_first c b a (number c pc);
  }

  -- g is not longer than the longest, nor s shorter than the shortest
  module _ (g s : Float) (ps : T (positive s)) (pe : T (positive (g ⊘ s))) where
    edge_least : {u v w : Float} → Known u v w → T (le g (largest u v w)) → T (le (least u v w) s) → T (le (g ⊘ s) (edge_ratio u v w))
    unfolding edge_ratio
    edge_least {u} {v} {w} k i j = go (lt tiny (least u v w))
      where
        l : T (positive (least u v w))
        l = least_positive u v w k.first k.second k.third

        m : T (positive (largest u v w))
        m = largest_positive u v w k.first k.second k.third

        go : (t : Bool) → T (le (g ⊘ s) (cond t (largest u v w ⊘ least u v w) (inf false)))
        go true = le_trans (g ⊘ s) (largest u v w ⊘ s) (largest u v w ⊘ least u v w) (div_monotone g (largest u v w) s ps i)
            (div_falls (largest u v w) (least u v w) s (positive-finite (largest u v w) m) (positive_signless (largest u v w) m) l j)
        go false = le_top (g ⊘ s) (number (g ⊘ s) pe)

  pub edges_bounded : T (positive (maximum b c ⊘ a)) → EdgeBound a b c (maximum b c ⊘ a)
  edges_bounded pe = record {
    above = λ n. pe;
    least = λ u v w o n.
        let k = known o in
        edge_least (maximum b c) a pa pe k (maximum_either (λ (x : Float). T (le x (largest u v w))) b c k.b_longest k.c_longest) k.a_shortest;
  }

module _ (a b c s : Float) (ps : T (positive s)) (pe : T (positive (maximum (maximum a b) c ⊘ s))) where
  pub edges_from : EdgeFrom a b c s (maximum (maximum a b) c ⊘ s)
  edges_from = record { longer = λ x y z A B C o. record { above = λ n. pe; least = λ u v w i n. at A B C o (known x y z A.own B.own C.own i) } }
    where
      at : {x y z u v w : Float} (A : NotShorter a x) (B : NotShorter b y) (C : NotShorter c z) → OneUpTo s x y z → Known x y z A.own B.own C.own u v w
          → T (le (maximum (maximum a b) c ⊘ s) (edge_ratio u v w))
      at {x} {y} {z} {u} {v} {w} A B C o k =
          let P : Float → Type 0 = λ t. T (le t (largest u v w)) in
          edge_least x y z A.own B.own C.own (maximum (maximum a b) c) s ps pe k
          (maximum_either P (maximum a b) c (maximum_either P a b (le_trans a x _ A.least k.a_longest) (le_trans b y _ B.least k.b_longest))
          (le_trans c z _ C.least k.c_longest)) (elim o [
            | first h ↦ le_trans (least u v w) x s k.a_shortest h
            | second h ↦ le_trans (least u v w) y s k.b_shortest h
            | third h ↦ le_trans (least u v w) z s k.c_shortest h
          ])

pub no_edge_from : (a b c s : Float) → EdgeFrom a b c s nan
no_edge_from a b c s = record { longer = λ x y z A B C o. no_edge_bound x y z }
