-- The laws of the memory, together.
use Rattle.memory.specs.Slots.{MemoryLaws}
use Rattle.memory.proofs.Head.{head}
use Rattle.memory.proofs.Opened.{opens}
use Rattle.memory.proofs.Slots.{order_slots, lot_slots, entry_slots, part_slots, recipe_slots, balance_slots, stock_slots}

pub memory_laws : MemoryLaws
memory_laws = record { orders = order_slots; lots = lot_slots; entries = entry_slots; parts = part_slots; recipes = recipe_slots; balances = balance_slots; stocks = stock_slots; head = head; opens = opens }
