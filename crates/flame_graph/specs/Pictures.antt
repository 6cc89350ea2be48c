-- The picture as a document: the boxes, under a title, a note, and a search field and a button for who reads it in a browser.
use Rattle.std.specs.Prelude.{◌≡◌, ℕ, ◌+◌, ◌*◌, ◌^◌, ◌≤◌, max, Bool, ◌&&◌, List, [], ◌∷◌, ◌++◌, codes, decimal, nat_le, nat_lt, if◌then◌else◌, Result, Ok, Err, Vec}
use Rattle.std.specs.Global.{Global}
use Rattle.std.specs.List.{flat_map}
use Rattle.flame_graph.specs.declared.picture.TheConstants.{PIXELS}
use Rattle.flame_graph.specs.declared.page.TheConstants.{SCRIPT, STYLE}
use Rattle.flame_graph.specs.declared.error.FlameError.{FlameError}
use Rattle.flame_graph.specs.declared.error.FlameError.TheVariants.{OutOfMemory, TooManySamples}
use Rattle.flame_graph.specs.declared.scale.Direction.{Direction}
use Rattle.flame_graph.specs.declared.scale.Direction.TheVariants.{Flame, Icicle}
use Rattle.flame_graph.specs.declared.picture.Picture.{Picture}
use Rattle.flame_graph.specs.declared.stack.FoldedStack.{FoldedStack}
use Rattle.flame_graph.specs.Boxes.{Shown, boxes_of}
use Rattle.flame_graph.specs.Escapes.{color_of, escaped}
use Rattle.flame_graph.specs.Frames.{Measures, frame_text}
use Rattle.flame_graph.specs.Stacks.{samples}

-- What a picture says beside its boxes.
pub record Caption : Type 0 where
  pub title : List ℕ
  pub unit : List ℕ
  pub direction : Direction

abbrev pub picture_view : Picture → Caption
picture_view picture = record { title = picture.title.now; unit = picture.unit.now; direction = picture.direction }

-- Whether a box is wide enough to be shown: a pixel, if all are so many.
abbrev pub is_wide_of : ℕ → ℕ → Bool
is_wide_of total width = nat_lt 0 width && nat_le total (width * PIXELS)

-- The level of a box, above the one for all stacks.
abbrev pub level_of : Shown → ℕ
level_of shown = shown.depth + 1

-- The same if the box is shown, or 0.
abbrev pub level_shown : ℕ → Shown → ℕ
level_shown total shown = if is_wide_of total shown.width then level_of shown else 0

-- How many levels of boxes are shown.
abbrev pub deepest : ℕ → List Shown → ℕ
deepest total [] = 0
deepest total (shown ∷ rest) = max (level_shown total shown) (deepest total rest)

-- A box, if it is wide enough.
unfoldable pub box_text : Measures → Shown → List ℕ
box_text scale shown =
    if is_wide_of scale.total shown.width then frame_text scale (color_of shown.name) (level_of shown) shown else []

-- Boxes.
abbrev pub boxes_text : Measures → List Shown → List ℕ
boxes_text scale boxes = flat_map (box_text scale) boxes

-- The box for all stacks, in a color of its own.
unfoldable pub all_text : Measures → List ℕ
all_text scale = frame_text scale 24 0 (record { depth = 0; start = 0; width = scale.total; name = codes "all" })

-- The name of a direction.
abbrev pub class_of : Direction → List ℕ
class_of Flame = codes "flame"
class_of Icicle = codes "icicle"

-- What is said of the boxes.
abbrev pub note_of : Direction → List ℕ
note_of Flame = codes ". A box is a function: below it is its caller, above it what it called. Its width is its share."
note_of Icicle = codes ". A box is a function: above it is its caller, below it what it called. Its width is its share."

-- How high the boxes are, in pixels.
abbrev pub height_of : ℕ → ℕ
height_of levels = (levels + 1) * 18

-- The start of the document, up to its height.
unfoldable pub root_text : Measures → List ℕ
root_text scale =
    codes "<svg xmlns='http://www.w3.org/2000/svg' class='" ++ class_of scale.direction ++ codes "' width='100%' height='"
    ++ decimal (height_of scale.levels + 136) ++ codes "'><title>"

-- What comes before the boxes.
unfoldable pub opening_text : List ℕ → Measures → List ℕ
opening_text title scale =
    root_text scale ++ escaped title ++ codes "</title>\n" ++ STYLE.now
    ++ codes "<svg id='frames' x='1%' y='122' width='98%' height='" ++ decimal (height_of scale.levels) ++ codes "'>\n"

-- The note under the title.
unfoldable pub note_text : Measures → List ℕ
note_text scale = decimal scale.total ++ codes " " ++ escaped scale.unit ++ note_of scale.direction

-- What comes after the boxes.
unfoldable pub head_text : List ℕ → Measures → List ℕ
head_text title scale =
    codes "</svg>\n<g id='head'><rect class='page' width='100%' height='114'/><text class='title' x='1%' y='30'>" ++ escaped title
    ++ codes "</text><text class='note' x='1%' y='50'>" ++ note_text scale ++ SCRIPT.now

-- The document with boxes.
unfoldable pub document : List ℕ → Measures → List Shown → List ℕ
document title scale boxes = opening_text title scale ++ all_text scale ++ boxes_text scale boxes ++ head_text title scale

abbrev pub svg_text : Caption → ℕ → List Shown → List ℕ
svg_text caption total boxes =
    document caption.title (record { unit = caption.unit; total = total; levels = deepest total boxes; direction = caption.direction }) boxes

-- A call returned the document with the boxes of stacks, or their samples are too many for 64 bits, unless memory ran out.
abbrev pub Draws : Caption → List FoldedStack → Result (Vec ℕ Global) FlameError → Type 0
Draws caption stacks (Ok text) = text.items ≡ svg_text caption (samples stacks) (boxes_of stacks)
Draws caption stacks (Err TooManySamples) = 2 ^ 64 ≤ samples stacks
Draws caption stacks (Err OutOfMemory) = Unit {0}
