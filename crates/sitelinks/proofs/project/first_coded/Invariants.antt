use Rattle.std.proofs.Common.{◌≡◌, drop}
use Rattle.sitelinks.specs.Project.{first_coded}
use Rattle.sitelinks.proofs.project.first_coded.Given as goal

abbrev pub invariant-loop-project : goal.invariant-loop-project
invariant-loop-project l = first_coded (drop l.project-index l.projects) l.id ≡ first_coded l.projects l.id
