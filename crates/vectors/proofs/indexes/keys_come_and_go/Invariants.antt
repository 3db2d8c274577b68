use Rattle.vectors.proofs.indexes.keys_come_and_go.Given as goal

abbrev pub ghosts-check_calls : goal.ghosts-check_calls
ghosts-check_calls a = record { name = a.blank.name; parts = a.blank.parts }
