-- The words so far stand in the IRI, and the others are left.
use Rattle.std.proofs.Common.{◌≡◌, ◌++◌, length, string_bytes}
use Rattle.rdf_vocabulary.specs.Unreserved.{escaped_name}
use Rattle.sitelinks.specs.Replaced.{replaced}
use Rattle.sitelinks.proofs.article.push_title.Given as goal
use denote.Shadow.{shadow}
use denote.Text.{Utf8}

abbrev pub invariant-loop-word : goal.invariant-loop-word
invariant-loop-word l =
    (string_bytes l.iri ++ escaped_name (replaced 32 95 l.left) ≡ string_bytes l.fn.iri ++ escaped_name (replaced 32 95 l.fn.title))
    × shadow (Utf8 l.left)

abbrev pub decreases-loop-word : goal.decreases-loop-word
decreases-loop-word l = length l.left
