-- The machine as a state.
use Rattle.itanium_names.specs.declared.machine.Machine.{Machine}
use Rattle.itanium_names.specs.State.{State}

abbrev pub view : Machine → State
view m = record {
  name_length = m.name_length;
  rest = m.rest.now;
  text = m.text.items;
  frames = m.frames.items;
  pieces = m.pieces.items;
  remembered = m.remembered.items;
  elements = m.elements.items;
  parameters = m.parameters;
  opened = m.opened;
}
