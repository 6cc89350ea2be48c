-- The productions of each rule: the table of `src/grammar.rt`.
use Rattle.std.specs.Prelude.{List}
use Rattle.itanium_names.specs.declared.symbol.Symbol.{Symbol}
use Rattle.itanium_names.specs.declared.grammar.Rule.{Rule}
use Rattle.itanium_names.specs.declared.grammar.Rule.TheVariants as rules
use Rattle.itanium_names.specs.declared.grammar.TheConstants as tables

unfoldable pub rows_of : Rule → List Symbol
rows_of rules.Mangled = tables.MANGLED
rows_of rules.Suffixes = tables.SUFFIXES
rows_of rules.Word = tables.WORD
rows_of rules.Numbers = tables.NUMBERS
rows_of rules.Digits = tables.DIGITS
rows_of rules.Number = tables.NUMBER
rows_of rules.HexDigits = tables.HEX_DIGITS
rows_of rules.Value = tables.VALUE
rows_of rules.Encoding = tables.ENCODING
rows_of rules.EncodingRest = tables.ENCODING_REST
rows_of rules.WithResult = tables.WITH_RESULT
rows_of rules.WithoutResult = tables.WITHOUT_RESULT
rows_of rules.Local = tables.LOCAL
rows_of rules.LocalRest = tables.LOCAL_REST
rows_of rules.WithoutItsResult = tables.WITHOUT_ITS_RESULT
rows_of rules.Params = tables.PARAMS
rows_of rules.ParamsRest = tables.PARAMS_REST
rows_of rules.Special = tables.SPECIAL
rows_of rules.CallOffset = tables.CALL_OFFSET
rows_of rules.Guard = tables.GUARD
rows_of rules.Name = tables.NAME
rows_of rules.UnscopedArgs = tables.UNSCOPED_ARGS
rows_of rules.SubArgs = tables.SUB_ARGS
rows_of rules.Prefix = tables.PREFIX
rows_of rules.NestRest = tables.NEST_REST
rows_of rules.Entity = tables.ENTITY
rows_of rules.NameTagged = tables.NAME_TAGGED
rows_of rules.UnscopedArgsTagged = tables.UNSCOPED_ARGS_TAGGED
rows_of rules.SubArgsTagged = tables.SUB_ARGS_TAGGED
rows_of rules.NestRestTagged = tables.NEST_REST_TAGGED
rows_of rules.EntityTagged = tables.ENTITY_TAGGED
rows_of rules.Discriminator = tables.DISCRIMINATOR
rows_of rules.Substituted = tables.SUBSTITUTED
rows_of rules.Quals = tables.QUALS
rows_of rules.RefQual = tables.REF_QUAL
rows_of rules.Unqualified = tables.UNQUALIFIED
rows_of rules.LambdaParams = tables.LAMBDA_PARAMS
rows_of rules.Bindings = tables.BINDINGS
rows_of rules.Tags = tables.TAGS
rows_of rules.Args = tables.ARGS
rows_of rules.ArgList = tables.ARG_LIST
rows_of rules.TemplateArg = tables.TEMPLATE_ARG
rows_of rules.Literal = tables.LITERAL
rows_of rules.Bool = tables.BOOL
rows_of rules.LiteralRest = tables.LITERAL_REST
rows_of rules.AnyType = tables.ANY_TYPE
rows_of rules.ParamArgs = tables.PARAM_ARGS
rows_of rules.VendorArgs = tables.VENDOR_ARGS
rows_of rules.FloatN = tables.FLOAT_N
rows_of rules.FloatKind = tables.FLOAT_KIND
rows_of rules.FunctionType = tables.FUNCTION_TYPE
rows_of rules.FunctionRest = tables.FUNCTION_REST
