-- `radii::compute_adaptive_radii` meets its contract. Assumes nothing.
use mathlib.Core.List.{List}
use mathlib.Core.Path.{refl, sym, ap, ◌∙◌, subst}
use Prim.Native.Nat.{ℕ}
use native.Mathlib.Omega.{arith}
use lib.Ieee.{Float}
use lib.ListN.{replicate, take}
use Rattle.numbers.specs.Rounded.{f32}
use Rattle.radii.specs.Radii.{densities_from, step_of, sample_count}
use Rattle.radii.specs.Inner.Steps.{RadiiListed}
use Rattle.radii.proofs.Chosen.{radii_off, radii_on, radii_none, radii_some}
use Rattle.radii.proofs.Spaced.{listed_none}
use Rattle.radii.proofs.compute_adaptive_radii.Goals as goal

pub returns-then-not-config : goal.returns-then-not-config
returns-then-not-config c = (
  subst (λ (xs : List Float). RadiiListed xs (record { list = replicate 17 (f32 0); count = 0 }))
      (radii_off c.args.config c.args.grid c.args.points.now c.args.n c.if-not-config.true) listed_none,
  refl,
  refl,
)

pub returns-then-count-eq0 : goal.returns-then-count-eq0
returns-then-count-eq0 c =
    let measure = c.measure-count in
    let if1 = c.if-not-config in
    let m = measure in
    let u : List Float = m.new.f in (
      subst (λ (xs : List Float). RadiiListed xs (record { list = replicate 17 (f32 0); count = 0 }))
          (radii_none c.args.config u
          (densities_from c.args.config c.args.grid c.args.points.now c.args.n (step_of c.args.n) 0 (sample_count c.args.n))
          (ap (λ (k : ℕ). take k u) (sym c.if-count-eq0.true) ∙ m.ensures.0) ∙ radii_on c.args.config c.args.grid c.args.points.now c.args.n
          if1.false) listed_none,
      m.ensures.2,
      m.ensures.3,
    )

pub returns : goal.returns
returns c =
    let if2 = c.if-count-eq0 in
    let measure = c.measure-count in
    let if1 = c.if-not-config in
    let m = measure in
    let u : List Float = m.new.f in (
      subst (λ (xs : List Float). RadiiListed xs c.choose.result)
          (radii_some c.args.config u
          (densities_from c.args.config c.args.grid c.args.points.now c.args.n (step_of c.args.n) 0 (sample_count c.args.n)) m.result
          (omega (arith, if2.false)) (omega (arith, m.ensures.1, m.auto.f, c.requires.room)) m.ensures.0 ∙ radii_on c.args.config
          c.args.grid c.args.points.now c.args.n if1.false) c.choose.ensures,
      m.ensures.2,
      m.ensures.3,
    )
