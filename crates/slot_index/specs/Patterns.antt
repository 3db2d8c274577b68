-- Which triples of slots agree with a pattern, and between which two they lie.
use Rattle.std.specs.Prelude.{ℕ, Bool, true, false, ◌&&◌, Option, None, Some, unwrap_or}
use Rattle.std.specs.Ordering.{nat_cmp, eq_by_cmp}
use Rattle.slot_keys.specs.declared.key.Key.{Key}
use Rattle.slot_index.specs.declared.pattern.SlotPattern.{SlotPattern}

-- a free place agrees with every slot, and at another place the slots are equal
abbrev pub slot_agrees_at : Option ℕ → ℕ → Bool
slot_agrees_at None slot = true
slot_agrees_at (Some wanted) slot = eq_by_cmp nat_cmp wanted slot

-- a triple agrees with a pattern where it does at each place
abbrev pub slots_agree : SlotPattern → Key → Bool
slots_agree pattern key = slot_agrees_at pattern.first key.first && (slot_agrees_at pattern.second key.second && slot_agrees_at pattern.third key.third)

-- the pattern of the turned triples
abbrev pub turned_pattern : SlotPattern → SlotPattern
turned_pattern p = record { first = p.second; second = p.third; third = p.first }

-- no free place stands before a wanted one
abbrev pub leads_at : Option ℕ → Option ℕ → Option ℕ → Bool
leads_at None None None = true
leads_at None None (Some z) = false
leads_at None (Some y) z = false
leads_at (Some x) None None = true
leads_at (Some x) None (Some z) = false
leads_at (Some x) (Some y) z = true

abbrev pub leads : SlotPattern → Bool
leads p = leads_at p.first p.second p.third

-- the least and the greatest triple that agree, where the pattern leads
abbrev pub low : SlotPattern → Key
low p = record { first = unwrap_or p.first 0; second = unwrap_or p.second 0; third = unwrap_or p.third 0 }

abbrev pub high : SlotPattern → Key
high p = record { first = unwrap_or p.first 4294967295; second = unwrap_or p.second 4294967295; third = unwrap_or p.third 4294967295 }
