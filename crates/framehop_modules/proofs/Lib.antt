mod CompactSections
mod ExplicitTable
mod PeTable
