-- A shape has the area that it was made from, and a quality the area and the edge ratio of its shape. Assumes nothing.
use mathlib.Core.Path.{◌≡◌, refl, sym, ap, ◌∙◌}
use mathlib.Core.Bool.{Bool, true, false, cond}
use lib.Ieee.{Float, lt}
use Rattle.numbers.specs.Rounded.{f32}
use Rattle.quality.specs.Measures.{radius_of, measures, degenerate}
use Rattle.quality.specs.Inner.Shape.{shape, flat_shape, shape_of, quality_of}
use Rattle.quality.specs.declared.Shape.{Shape}
use Rattle.quality.specs.declared.TriangleQuality.{TriangleQuality}

pub shape_area : (a b c area : Float) → (shape_of a b c area).area ≡ area
unfolding shape_of shape flat_shape
shape_area a b c area = go (lt area (f32 0x2edbe6ff))
  where
    go : (t : Bool) → (cond t (flat_shape area) (shape a b c area)).area ≡ area
    go true = refl
    go false = refl

pub shape_full : (a b c area : Float) → lt area (f32 0x2edbe6ff) ≡ false → shape_of a b c area ≡ shape a b c area
unfolding shape_of
shape_full a b c area h = rw h

pub shape_own : (s : Shape) (a b c area : Float) → s ≡ shape_of a b c area → s ≡ shape_of a b c s.area
shape_own s a b c area h = h ∙ ap (shape_of a b c) (sym (ap (λ (t : Shape). t.area) h ∙ shape_area a b c area))

pub quality_own : (a b c area : Float) {s : Shape} {q : TriangleQuality} → s ≡ shape_of a b c area → q ≡ quality_of a b c s.area → quality_of a b c area ≡ q
quality_own a b c area h g = sym (g ∙ ap (quality_of a b c) (ap (λ (t : Shape). t.area) h ∙ shape_area a b c area))

module _ (a b c area : Float) where
  pub quality_area : (quality_of a b c area).area ≡ (shape_of a b c area).area
  unfolding quality_of shape_of measures degenerate shape flat_shape
  quality_area = go (lt area (f32 0x2edbe6ff))
    where
      go : (t : Bool) → (cond t (degenerate area) (measures a b c area (radius_of a b c area))).area ≡ (cond t (flat_shape area) (shape a b c area)).area
      go true = refl
      go false = refl

  pub quality_edges : (quality_of a b c area).edge_ratio ≡ (shape_of a b c area).edge_ratio
  unfolding quality_of shape_of measures degenerate shape flat_shape
  quality_edges = go (lt area (f32 0x2edbe6ff))
    where
      go : (t : Bool) → (cond t (degenerate area) (measures a b c area (radius_of a b c area))).edge_ratio
          ≡ (cond t (flat_shape area) (shape a b c area)).edge_ratio
      go true = refl
      go false = refl
