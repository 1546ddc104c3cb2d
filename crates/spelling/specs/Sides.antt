-- A side as it is written from slices that hold its formulas.
use Rattle.std.specs.Prelude.{List, ◌∷◌, map, ℕ, length}
use Rattle.std.specs.List.{concat}
use denote.Ref.{Bor}
use Rattle.calculus.specs.declared.Side.{Side}
use Rattle.calculus.specs.Bytes.{SIDE, code}

-- its command, how many they are, and their bytes
abbrev pub side_bytes : Side → List (Bor (List ℕ)) → List ℕ
side_bytes s fs = code (SIDE s) ∷ length fs ∷ concat (map (λ f. f.now) fs)
