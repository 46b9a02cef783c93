-- All points in number order, split. Assumes nothing.
use mathlib.Core.Path.{◌≡◌, sym, ap, ◌∙◌, subst⁻¹}
use mathlib.Core.List.{List}
use Prim.Native.Nat.{ℕ, ◌+◌, ◌*◌, ◌/◌, ◌≤◌, ◌<◌}
use native.Mathlib.Omega.{arith}
use lib.Dec.{T, eqb}
use lib.Ieee.{Float, nan, binary32, fits}
use lib.ListN.{length, take, get_or}
use Rattle.lists.specs.Lists.{up_from, count}
use Rattle.lists.specs.Members.{Below}
use Rattle.lists.proofs.Members.{up_below}
use Rattle.axis_sort.specs.Axis.{precedes}
use Rattle.axis_sort.specs.Sorted.{sorted_by}
use Rattle.kd_tree.specs.Tree.{split, boxes_of, box_count}
use Rattle.kd_tree.specs.Inner.Written.{Splits}
use Rattle.tree_build.specs.Inner.Ready.{SplitReady}
use Rattle.axis_guess.specs.Inner.Rising.{Rises}
use Rattle.axis_guess.proofs.Rising.{rising_sorted}
use Rattle.point_order.specs.Inner.Ordering.{PointOrderReady, OrderedAll}
use Rattle.kd_tree.proofs.Tree.{work_room}
use Rattle.filling.proofs.Fill.{up_length, up_once}

pub start_ready : {points : List Float} {n work counts floats : ℕ} (o : List ℕ) → PointOrderReady points n work counts floats
    → ((k : ℕ) → T (fits binary32 (get_or points k nan))) → (x y z : List ℕ) {m lf : ℕ} → o ≡ up_from 0 n
    → x ≡ sorted_by (precedes points 0) (up_from 0 n) → y ≡ sorted_by (precedes points 1) (up_from 0 n) → z ≡ sorted_by (precedes points 2) (up_from 0 n) → m ≡ work
    → lf ≡ floats → SplitReady points o x y z m lf 0
start_ready {points} {n} {work} {floats = floats} o a fit x y z {m} {lf} eo ex ey ez em ef =
    let l : length o ≡ n = ap length eo ∙ up_length 0 n in
    record {
      numbers = record { cloud = a.cloud; fit = fit };
      some = omega (arith, a.cloud.some, a.count);
      work_enough = omega (arith, a.work_enough);
      boxes_enough = subst⁻¹ (λ (k : ℕ). 0 + 6 * box_count k ≤ lf) l (omega (arith, work_room n, a.floats_enough));
      orders = record {
        below = subst⁻¹ (Below (length points / 3)) eo (up_below (length points / 3) 0 n (omega (arith, a.count)));
        once = λ v. subst⁻¹ (λ (k : List ℕ). count (eqb v) k ≤ 1) eo (up_once v 0 n);
        along_0 = ex ∙ ap (sorted_by (precedes points 0)) (sym eo);
        along_1 = ey ∙ ap (sorted_by (precedes points 1)) (sym eo);
        along_2 = ez ∙ ap (sorted_by (precedes points 2)) (sym eo);
      };
    }

-- slices of the same lengths serve as well
pub as_long : {points : List Float} {n work counts floats m work' counts' floats' : ℕ} → PointOrderReady points n work counts floats → m ≡ n → work' ≡ work
    → counts' ≡ counts → floats' ≡ floats → PointOrderReady points m work' counts' floats'
as_long a en ew ec ef =
    record {
      cloud = a.cloud;
      count = en ∙ a.count;
      work_enough = omega (arith, a.work_enough);
      counts_enough = omega
          (arith, a.counts_enough);
      floats_enough = omega (arith, a.floats_enough);
    }

-- a guess that rises is the order
pub guessed : {points : List Float} {n work counts floats : ℕ} → PointOrderReady points n work counts floats → ((k : ℕ) → T (fits binary32 (get_or points k nan)))
    → (axis : ℕ) → axis < 3 → (xs : List ℕ) → length xs ≡ n
    → Rises points axis xs → xs ≡ sorted_by (precedes points axis) (up_from 0 n)
guessed {points} {n} a fit axis h xs l r =
    rising_sorted (record { cloud = a.cloud; fit = fit }) axis h xs (up_from 0 n) r (l ∙ a.count) (up_length 0 n ∙ a.count)
    (up_below (length points / 3) 0 n (omega (arith, a.count))) (λ v. up_once v 0 n)

pub ordered_all : {points : List Float} {n work counts floats : ℕ} (o o' : List ℕ) (f f' : List Float) (r : ℕ) → PointOrderReady points n work counts floats → o
    ≡ up_from 0 n → Splits points o o' f f' 0 r → OrderedAll points o' f' r
ordered_all {points} {n} o o' f f' r a e s =
    let d : o ≡ up_from 0 (length points / 3) = e ∙ ap (up_from 0) a.count in
    record {
      ordered = s.ordered ∙ ap (split points) d;
      ends = let z : 0 + length (boxes_of points o) ≡ length (boxes_of points o) = omega arith in s.ends ∙ z ∙ ap (λ (l : List ℕ). length (boxes_of points l)) d;
      boxed = ap (λ (k : ℕ). take k f') s.ends ∙ s.boxed ∙ ap (boxes_of points) d;
    }
