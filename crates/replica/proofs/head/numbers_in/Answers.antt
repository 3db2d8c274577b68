-- Each word gives its number.
use Rattle.std.proofs.Common.{◌≡◌, None, Some}
use Rattle.replica.proofs.head.numbers_in.Goals as goal

pub returns-in_err-words : goal.returns-in_err-words
returns-in_err-words c = λ head is. absurd (c.in_err-words.ensures head is)

pub returns-in_err-number : goal.returns-in_err-number
returns-in_err-number c = λ head is.
    let words = c.in_ok-words.ensures head is in
    let none : None ≡ Some head.number = c.in_err-number.ensures head.number is.number words.0 in
    cc

pub returns-in_err-adds : goal.returns-in_err-adds
returns-in_err-adds c = λ head is.
    let words = c.in_ok-words.ensures head is in
    let none : None ≡ Some head.adds = c.in_err-adds.ensures head.adds is.adds words.1 in
    cc

pub returns-in_err-removes : goal.returns-in_err-removes
returns-in_err-removes c = λ head is.
    let words = c.in_ok-words.ensures head is in
    let none : None ≡ Some head.removes = c.in_err-removes.ensures head.removes is.removes words.2 in
    cc

pub returns : goal.returns
returns c = λ head is.
    let words = c.in_ok-words.ensures head is in
    let number_is : Some c.in_ok-number.number ≡ Some head.number = c.in_ok-number.ensures head.number is.number words.0 in
    let adds_is : Some c.in_ok-adds.adds ≡ Some head.adds = c.in_ok-adds.ensures head.adds is.adds words.1 in
    let removes_is : Some c.in_ok-removes.removes ≡ Some head.removes = c.in_ok-removes.ensures head.removes is.removes words.2 in
    let number : c.in_ok-number.number ≡ head.number = cc in
    let adds : c.in_ok-adds.adds ≡ head.adds = cc in
    let removes : c.in_ok-removes.removes ≡ head.removes = cc in
    λ i. Some (record { number = number i; adds = adds i; removes = removes i })
