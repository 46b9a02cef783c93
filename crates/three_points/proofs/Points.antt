-- What holds of points that were read. Assumes nothing.
use mathlib.Core.Path.{◌≡◌, subst}
use lib.Ieee.{Float}
use Rattle.vector.specs.declared.Point3f.{Point3f}
use Rattle.decisions.specs.declared.Scene.{Scene}
use Rattle.filters.specs.declared.Limits.{Limits}
use Rattle.filters.specs.Inner.Refused.{Refused, RefusedThroughout, RefusedEach}

-- what holds of points that were read
points_same : {p q t x y z : Point3f} (P : Point3f → Point3f → Point3f → Type 0) → p ≡ x → q ≡ y → t ≡ z → P p q t → P x y z
points_same {p} {q} {t} {x} {y} {z} P e f g h = subst (λ (k : Point3f). P k y z) e (subst (λ (k : Point3f). P p k z) f (subst (P p q) g h))

pub refused_points : {l : Limits} {p q t x y z : Point3f} → p ≡ x → q ≡ y → t ≡ z → Refused l p q t → Refused l x y z
refused_points {l} = points_same (Refused l)

pub throughout_points : {l : Limits} {p q t x y z : Point3f} → p ≡ x → q ≡ y → t ≡ z → RefusedThroughout l p q t → RefusedThroughout l x y z
throughout_points {l} = points_same (RefusedThroughout l)

pub each_points : (s : Scene) (r : Float) {p q t x y z : Point3f} → p ≡ x → q ≡ y → t ≡ z → RefusedEach s r p q t → RefusedEach s r x y z
each_points s r = points_same (RefusedEach s r)
