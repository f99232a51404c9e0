use Rattle.objects.proofs.json.wrong_json.Goals as goal

pub returns-in-Reached : goal.returns-in-Reached
returns-in-Reached c = rw c.in-Reached.is c.ended_json.ensures

pub returns-in-Blocked : goal.returns-in-Blocked
returns-in-Blocked c = rw (c.in-Blocked.is, ← c.number_of.ensures, ← c.kind_of.ensures) c.write_object.ensures
