mod KnownCallers
mod Knowns
mod WholeCallers
