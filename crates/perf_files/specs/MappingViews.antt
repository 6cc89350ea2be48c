-- What contracts see of mappings.

use Rattle.perf_files.specs.declared.mapping.Mapping.{Mapping}
use Rattle.perf_files.specs.Mappings.{MappingParts}

-- A mapping, with its bytes.
abbrev pub mapping_seen : Mapping → MappingParts
mapping_seen mapping = record {
  thread = mapping.thread;
  address = mapping.address;
  size = mapping.size;
  offset = mapping.offset;
  executable = mapping.executable;
  build_id = mapping.build_id.now;
  name = mapping.name.now;
}
