-- The door of this crate's proofs: what crates above may cite. All other proof files are the crate's own, and may change.

-- How many members a set has, by the bits of its words.
pub use Rattle.cube_core.proofs.CountLaws.{count_below}
-- Which assignments are in a cube, by its literals and by the masks that the code computes with.
pub use Rattle.cube_core.proofs.CubeLaws.{IsProduct-point, contains-members_of_cube, each_below-all, in_cube-all, in_cube-from, in_cube-point, literal_of-past, literals-point}
-- What the literals of cubes say of their assignments: of one cube built input by input, and of two.
pub use Rattle.cube_core.proofs.LiteralLaws.{IsInside-IsWithin, IsInside-point, bit-past, contains-from_literals, in_cube-HasLiterals, literal_of-few, no_clash-Meet, same_from_tests, same_product}
-- Which assignments are in a table of bits, and what one more bit does to them.
pub use Rattle.cube_core.proofs.MembersLaws.{IsFunction-complement, below_or_above, complement_of-AllBelow, complement_of-AreDisjoint, contains-complement_of, contains-passing_below, passing_below-AllBelow}
-- Which sets of assignments are equal, empty or below an end, by their members.
pub use Rattle.cube_core.proofs.SetLaws.{empty_from_none, none_from_empty}
-- What operations on words of bits do to the sets that the words stand for.
pub use Rattle.cube_core.proofs.WordLaws.{bit-and}
