-- A long list in blocks, and where in them a place of the list is.
use Rattle.std.specs.Prelude.{◌≡◌, ℕ, ◌+◌, ◌-◌, ◌<◌, List, length, take, slice_get, Some}
use Rattle.std.specs.List.{flat_map, range_with_len}
use Rattle.std.specs.declared.collections.VecDeque.{VecDeque}
use Rattle.std.specs.declared.alloc.Global.{Global}

-- a block: the numbers of waiting tasks, of which any can be taken out
abbrev pub Block : Type 0
Block = VecDeque ℕ Global

-- the numbers in a block, in their order
abbrev pub numbers_in : Block → List ℕ
numbers_in block = block.items

-- the numbers of all blocks
abbrev pub all_in : List Block → List ℕ
all_in blocks = flat_map numbers_in blocks

-- the numbers from one on, up to another without it
abbrev pub numbers_between : ℕ → ℕ → List ℕ
numbers_between next stop = range_with_len next (stop - next)

-- the place of all blocks' numbers stands at this index in this block
pub record IsSpot (blocks : List Block) (place block index : ℕ) : Type 0 where
  pub there : block < length blocks
  pub place_is : place ≡ length (all_in (take block blocks)) + index
  pub within : (b : Block) → slice_get blocks block ≡ Some b → index < length b.items
