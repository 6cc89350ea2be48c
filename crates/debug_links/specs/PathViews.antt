-- What contracts see of paths.
use Rattle.std.specs.Prelude.{ℕ, List, map, Vec}
use Rattle.std.specs.Global.{Global}

-- their bytes
abbrev pub paths_seen : List (Vec ℕ Global) → List (List ℕ)
paths_seen paths = map (λ path. path.items) paths
