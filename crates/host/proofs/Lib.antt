-- Nothing is lost on the way.
mod Kept
-- An array made from another, element by element.
mod Copies
