-- Nothing found, more than fits, a plain patch that was to be turned, or the patch. Assumes nothing.
use mathlib.Core.Path.{sym, ◌∙◌}
use native.Mathlib.Omega.{arith}
use Rattle.origins_outcome.proofs.Delivered.{fits, comes_none, comes_over, comes_laid, comes_eighteen, comes_plain}
use Rattle.origins_outcome.proofs.deliver.Goals as goal

pub returns-then-count-eq0 : goal.returns-then-count-eq0
returns-then-count-eq0 c = λ k pts lent h en z. comes_none _ k pts lent _ _ _ h _ c.refuse.ensures c.if-count-eq0.true

pub returns-then-is_over : goal.returns-then-is_over
returns-then-is_over c =
    λ k pts lent h en z. comes_over _ k pts lent _ _ _ h
    c.if-count-eq0.false _ _ _
    (sym c.is_over.ensures
    ∙ c.if-is_over.true) c.refuse-then-is_over.ensures
    c.clear.ensures c.clear-then-is_over.ensures

pub write_laid-requires : goal.write_laid-requires
write_laid-requires c =
    let k = c.requires in
    let f = fits _ _ _ (sym
    c.is_over.ensures ∙ c.if-is_over.false) in
    let some = c.if-radii-ne0.true in
    (k.few, k.radii_few, k.laid_few (omega arith), k.long, f.0, f.1)

pub returns-then-radii-ne0 : goal.returns-then-radii-ne0
returns-then-radii-ne0 c =
    λ k pts lent h en z. comes_laid _ k pts lent _ _ _ h
    c.if-count-eq0.false
    (sym c.is_over.ensures
    ∙ c.if-is_over.false) _ c.accept.ensures
    c.if-radii-ne0.true
    c.args.n c.args.words.now _ en c.requires.long z c.write_laid.ensures.0 _ c.write_laid.ensures.1

pub returns-then-turned : goal.returns-then-turned
returns-then-turned c =
    λ k pts lent h en z. comes_eighteen _ k pts lent _ _ _ h c.if-count-eq0.false
    (sym c.is_over.ensures ∙ c.if-is_over.false) _
    c.if-turned.true c.if-radii-ne0.false c.refuse-then-turned.ensures

pub write_plain_origins-requires : goal.write_plain_origins-requires
write_plain_origins-requires c = (
  c.requires.few,
  (fits _ _ _
      (sym c.is_over.ensures ∙ c.if-is_over.false)).1,
)

pub returns : goal.returns
returns c =
    λ k pts lent h en z. comes_plain _ k pts lent _ _ _ h c.if-count-eq0.false
    (sym c.is_over.ensures
    ∙ c.if-is_over.false) _ _ c.accept-2.ensures
    c.if-turned.false c.if-radii-ne0.false
    c.write_plain_origins.ensures
