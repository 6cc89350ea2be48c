-- Where the reading of a name of the scheme v0 stands.
use Rattle.std.specs.Prelude.{ℕ, Bool, false, List, [], if◌then◌else◌, Option, Some, option_map}
use Rattle.rust_names.specs.declared.machine.Machine.{Machine}
use Rattle.rust_names.specs.declared.symbol.Frame.{Frame}

pub record State : Type 0 where
  -- the name, which back references count in
  pub name : List ℕ
  -- what of it isn't read yet
  pub rest : List ℕ
  -- what was written
  pub text : List ℕ
  -- what is still to be done, the next of it last
  pub frames : List Frame
  -- how many lifetimes are bound
  pub depth : ℕ
  -- nothing is written
  pub is_hidden : Bool
  -- the generic arguments of the last path of a trait are open
  pub is_open : Bool

-- The machine as a state.
abbrev pub view : Machine → State
view m = record {
  name = m.name.now;
  rest = m.rest.now;
  text = m.text.items;
  frames = m.frames.items;
  depth = m.depth;
  is_hidden = m.is_hidden;
  is_open = m.is_open;
}

-- The reading begins.
abbrev pub began : List ℕ → State
began name = record {
  name = name;
  rest = name;
  text = [];
  frames = [];
  depth = 0;
  is_hidden = false;
  is_open = false;
}

abbrev pub with_text : State → List ℕ → State
with_text s text = record s { text = text }

abbrev pub with_rest : State → List ℕ → State
with_rest s rest = record s { rest = rest }

-- What is written, unless nothing is.
abbrev pub shown : (List ℕ → Option (List ℕ)) → State → Option State
shown writes s = if s.is_hidden then Some s else option_map (with_text s) (writes s.text)
