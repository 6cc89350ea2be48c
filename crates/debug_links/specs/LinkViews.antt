-- What contracts see of links.
use Rattle.debug_links.specs.Links.{Link}
use Rattle.debug_links.specs.declared.link.DebugLink.{DebugLink}

-- a link
abbrev pub link_seen : DebugLink → Link
link_seen link = record { name = link.name.now; checksum = link.checksum }
