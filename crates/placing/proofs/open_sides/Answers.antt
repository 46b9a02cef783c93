-- `placing::open_sides` meets its contract: one side after the other. Assumes nothing.
use mathlib.Core.Path.{sym, subst, ◌∙◌}
use mathlib.Core.Bool.{true}
use mathlib.Core.List.{List}
use Prim.Native.Nat.{ℕ}
use Rattle.lists.proofs.Bools.{true_not_false}
use Rattle.placing.specs.Inner.Placing.{opens, Opens}
use Rattle.placing.proofs.Keeping.{around_third, opens_as}
use Rattle.placing.proofs.open_sides.Goals as goal
use Rattle.placing.proofs.open_sides.Goals.{then-open_side, else-open_side}

pub returns-then-open_side-2 : goal.returns-then-open_side-2
returns-then-open_side-2 c =
    let a = c.args in
    let o = c.open_side in
    let s = c.open_side-then-open_side-2 in
    elim c.if-open_side.branch [
      | then-open_side w ↦
          let q = w.open_side-then-open_side in
          around_third a.n a.count a.a a.b a.c (opens a.ua a.ub) (opens a.ub a.uc) (opens a.uc a.ua) c.requires.1 a.words.now
          o.new.words q.new.words
          (opens_as a.n a.count a.a a.b a.words.now o.new.words (opens a.ua a.ub) o.result true w.if-open_side.true o.ensures)
          s.new.words s.result
          (opens_as a.n a.count a.b a.c o.new.words q.new.words (opens a.ub a.uc) q.result true
          (sym w.value-is ∙ c.if-open_side-2.true) q.ensures)
          (subst (λ (l : List ℕ). Opens a.n a.count a.c a.a (opens a.uc a.ua) s.result l s.new.words) w.words-is s.ensures)
      | else-open_side w ↦ absurd (true_not_false c.if-open_side-2.true (w.value-is ∙ w.if-open_side.false))
    ]
