-- The productions of each rule: the table of `src/grammar.rt`.
use Rattle.std.specs.Prelude.{List}
use Rattle.rust_names.specs.declared.symbol.Symbol.{Symbol}
use Rattle.rust_names.specs.declared.grammar.Rule.{Rule}
use Rattle.rust_names.specs.declared.grammar.Rule.TheVariants as rules
use Rattle.rust_names.specs.declared.grammar.TheConstants as tables

unfoldable pub rows_of : Rule → List Symbol
rows_of rules.Whole = tables.WHOLE
rows_of rules.Instantiation = tables.INSTANTIATION
rows_of rules.ValuePath = tables.VALUE_PATH
rows_of rules.Path = tables.PATH
rows_of rules.Arguments = tables.ARGUMENTS
rows_of rules.MoreArguments = tables.MORE_ARGUMENTS
rows_of rules.Argument = tables.ARGUMENT
rows_of rules.Type = tables.TYPE
rows_of rules.Tuple = tables.TUPLE
rows_of rules.SecondType = tables.SECOND_TYPE
rows_of rules.Types = tables.TYPES
rows_of rules.MoreTypes = tables.MORE_TYPES
rows_of rules.Function = tables.FUNCTION
rows_of rules.Abi = tables.ABI
rows_of rules.Signature = tables.SIGNATURE
rows_of rules.Returned = tables.RETURNED
rows_of rules.Traits = tables.TRAITS
rows_of rules.MoreTraits = tables.MORE_TRAITS
rows_of rules.Trait = tables.TRAIT
rows_of rules.TraitPath = tables.TRAIT_PATH
rows_of rules.Bindings = tables.BINDINGS
rows_of rules.Constant = tables.CONSTANT
rows_of rules.Signed = tables.SIGNED
