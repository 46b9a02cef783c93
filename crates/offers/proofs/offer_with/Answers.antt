-- `offers::offer_with` meets its contract: by cases on the face's point. Assumes nothing.
use mathlib.Core.Path.{◌≡◌, sym, ap, ◌∙◌}
use mathlib.Core.Bool.{false}
use Rattle.patch.specs.Shape.{touches}
use Rattle.minima.specs.Inner.Minima.{leaf}
use Rattle.corners.specs.Corners.{face_in}
use Rattle.regions.specs.Inner.Ordering.{tree_at}
use Rattle.offers.specs.Inner.Offers.{offered}
use Rattle.offers.proofs.Walk.{offered_no, offer_none, offer_yes}
use Rattle.offers.proofs.offer_with.Goals as goal

pub returns-then-has_point : goal.returns-then-has_point
returns-then-has_point c =
    let a = c.args in
    let o = c.offer in
    let is = sym c.if-has_point.true ∙ c.has_point.ensures in
    (is, offer_yes a.n a.count a.g a.words.now o.new.words (touches a.y (face_in a.words.now a.g)) is o.ensures)

pub returns : goal.returns
returns c =
    let a = c.args in
    let is : false ≡ touches a.y (face_in a.words.now a.g) = sym c.if-has_point.false ∙ c.has_point.ensures in (
      is,
      offer_none a.n a.count a.g a.words.now (touches a.y (face_in a.words.now a.g))
          (ap (λ v. offered v a.count a.g (leaf (tree_at a.n) a.count a.words.now a.g)) (sym is) ∙ offered_no a.count a.g
          (leaf (tree_at a.n) a.count a.words.now a.g)),
    )
