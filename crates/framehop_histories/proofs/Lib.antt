mod Obeyed
mod CommandLists
mod Held
mod Alike
