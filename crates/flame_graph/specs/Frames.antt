-- The boxes in the picture, as parts of a document (Scalable Vector Graphics 1.1, 5.1 and 9.2): each a picture of its own, so that what
-- doesn't fit in it is cut off, with a title, an area and a name.
use Rattle.std.specs.Prelude.{ℕ, ◌-◌, ◌*◌, List, ◌++◌, codes, decimal}
use Rattle.flame_graph.specs.declared.scale.Direction.{Direction}
use Rattle.flame_graph.specs.declared.scale.Direction.TheVariants.{Flame, Icicle}
use Rattle.flame_graph.specs.declared.scale.Scale.{Scale}
use Rattle.flame_graph.specs.Boxes.{Shown}
use Rattle.flame_graph.specs.Escapes.{escaped}
use Rattle.flame_graph.specs.Shares.{percent_text, place_text}

-- What the places and the numbers of all boxes depend on.
pub record Measures : Type 0 where
  pub unit : List ℕ
  pub total : ℕ
  pub levels : ℕ
  pub direction : Direction

abbrev pub scale_view : Scale → Measures
scale_view scale = record { unit = scale.unit.now; total = scale.total; levels = scale.levels; direction = scale.direction }

-- How far below the top of the boxes a level is, in pixels: level 0 is at the bottom of a flame graph, and at the top of an icicle graph.
abbrev pub row_in : Direction → ℕ → ℕ → ℕ
row_in Flame levels level = (levels - level) * 18
row_in Icicle levels level = level * 18

abbrev pub row_of : Measures → ℕ → ℕ
row_of scale level = row_in scale.direction scale.levels level

-- The start of a box, with what it counts.
unfoldable pub counts_text : Shown → List ℕ
counts_text shown =
    codes "<svg class='box' data-start='" ++ decimal shown.start ++ codes "' data-width='" ++ decimal shown.width

-- Where a box is.
unfoldable pub area_text : Measures → ℕ → Shown → List ℕ
area_text scale level shown =
    codes "' x='" ++ place_text shown.start scale.total ++ codes "%' y='" ++ decimal (row_of scale level)
    ++ codes "' width='" ++ place_text shown.width scale.total ++ codes "%' height='18'>"

-- The title of a box: its name, its samples and its share of all.
unfoldable pub label_text : Measures → Shown → List ℕ
label_text scale shown =
    codes "<title>" ++ escaped shown.name ++ codes " (" ++ decimal shown.width ++ codes " " ++ escaped scale.unit
    ++ codes ", " ++ percent_text shown.width scale.total ++ codes "%)</title>"

-- The area of a box with its name.
unfoldable pub fill_text : ℕ → List ℕ → List ℕ
fill_text color name =
    codes "<rect class='c" ++ decimal color ++ codes "' width='100%' height='17' rx='2'/><text x='4' y='13'>" ++ escaped name
    ++ codes "</text></svg>\n"

-- A box of a color at a level.
unfoldable pub frame_text : Measures → ℕ → ℕ → Shown → List ℕ
frame_text scale color level shown =
    counts_text shown ++ area_text scale level shown ++ label_text scale shown ++ fill_text color shown.name
