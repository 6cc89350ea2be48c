-- Arguments as contracts see them.
use Rattle.frame_table.specs.Arguments.{Request, document, file, help}
use Rattle.frame_table.specs.declared.arguments.Request.{Request as Asked}
use Rattle.frame_table.specs.declared.arguments.Request.TheVariants as asked

-- what is asked for
abbrev pub request_view : Asked → Request
request_view asked.Document = document
request_view (asked.File path section) = file path.now section
request_view asked.Help = help
