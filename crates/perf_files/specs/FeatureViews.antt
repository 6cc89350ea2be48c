-- What contracts see of build ids.
use Rattle.perf_files.specs.declared.feature.FileBuildId.{FileBuildId}
use Rattle.perf_files.specs.Features.{FileBuildIdParts}

-- A build id, with its bytes.
abbrev pub file_build_id_seen : FileBuildId → FileBuildIdParts
file_build_id_seen found = record { build_id = found.build_id.now; name = found.name.now }
