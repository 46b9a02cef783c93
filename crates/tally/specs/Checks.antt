-- Which patches may be entered, which is answer 20, and which tallies are taken, which is answer 24. Definitions only.
use Rattle.std.specs.Prelude.{Bool, ◌&&◌, ◌||◌, ℕ, ◌*◌, ◌≤◌, ◌<◌, leb, eqb}
use Rattle.tally.specs.declared.SeasonPatch.{SeasonPatch}
use Rattle.tally.specs.declared.Tally.{Tally}

-- the scope's limits: patches of a season, points and faces of a patch
abbrev pub max_patches : ℕ
max_patches = 100000

abbrev pub max_scanned : ℕ
max_scanned = 4096

abbrev pub max_faces : ℕ
max_faces = 10000

-- a patch of points, not too many, no more covered than scanned, and not too many faces
unfoldable pub enterable : SeasonPatch → Bool
enterable p =
    leb 1 p.scanned
    && (leb p.scanned max_scanned
    && (leb p.covered p.scanned
    && leb p.faces max_faces))

-- not too many patches, no sum above them times its limit, no fewer points scanned than patches or covered ones
unfoldable pub tally_within : Tally → Bool
tally_within t =
    leb t.patches max_patches
    && (leb t.faces (t.patches * max_faces)
    && (leb t.face_squares (t.patches * (max_faces * max_faces))
    && (leb t.scanned (t.patches * max_scanned)
    && (leb t.covered (t.patches * max_scanned)
    && (leb t.patches t.scanned
    && leb t.covered t.scanned)))))

-- that, no negative variance, and, unless the tally is empty, a best and a worst patch that may be entered
unfoldable pub sound_tally : Tally → Bool
sound_tally t =
    tally_within t
    && (leb (t.faces * t.faces) (t.patches * t.face_squares)
    && (eqb t.patches 0 || enterable t.best && enterable t.worst))

-- what the tests tell
pub record Enterable (p : SeasonPatch) : Type 0 where
  pub some : 1 ≤ p.scanned
  pub few : p.scanned ≤ max_scanned
  pub part : p.covered ≤ p.scanned
  pub faces : p.faces ≤ max_faces

pub record TallyWithin (t : Tally) : Type 0 where
  pub patches : t.patches ≤ max_patches
  pub faces : t.faces ≤ t.patches * max_faces
  pub squares : t.face_squares ≤ t.patches * (max_faces * max_faces)
  pub scanned : t.scanned ≤ t.patches * max_scanned
  pub covered : t.covered ≤ t.patches * max_scanned
  pub points : t.patches ≤ t.scanned
  pub part : t.covered ≤ t.scanned

pub record TallySound (t : Tally) : Type 0 where
  pub sums : TallyWithin t
  pub spread : t.faces * t.faces ≤ t.patches * t.face_squares
  pub ends : 0 < t.patches → Enterable t.best × Enterable t.worst

-- a sound tally that is not full
pub record TallyRoom (t : Tally) : Type 0 where
  pub sums : TallyWithin t
  pub more : t.patches < max_patches
