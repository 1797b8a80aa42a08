-- The exports promise what the libraries do, whose theorems leave one outcome; an update's answer in numbers is one.
use mathlib.Core.Path.{◌≡◌, sym, ap, ◌∙◌}
use Rattle.bench.specs.declared.Log.{Log}
use Rattle.bench.specs.declared.Reading.{Reading}
use Rattle.bench.specs.Log.{Outcome, update_of}
use Rattle.abi.specs.declared.Noted.{Noted}
use Rattle.abi.specs.Answers.{outcome_of}

pub update_one : (before : Log) (r : Reading) (a a' : Noted) (after after' : Log) → outcome_of a after ≡ update_of before r → outcome_of a' after' ≡ update_of before r → (a ≡ a') × (after ≡ after')
update_one before r a a' after after' e e' =
    let same = e ∙ sym e' in
    let answer : Outcome → Noted = λ o. record { number = o.number; place = o.place; kind = o.kind } in
    (ap answer same, ap (λ (o : Outcome). o.log) same)
